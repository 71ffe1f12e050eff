-- No list of blocks encodes a frame in fewer octets than the sender's (document 02, slip 9); proved in proofs/Shortest.antt.
use Rattle.std.specs.Prelude.{Bool, true, false, List, [], ◌∷◌, ◌++◌, ◌≡◌, ℕ, ◌+◌, ◌≤◌, length, replicate}
use Rattle.cobs.specs.CodeBlocks.{with_phantom, choice, Block, zeros_after, AllAllowed, decoded_octets, line_octets, covered_by, blocks, uninterrupted}

-- The blocks bs encode the frame f: the table allows them under the setting, and they decode to D, the phantom too. (The sender's do:
-- `WholeFrame` in Frames.antt.)
pub record EncodedBy (zxe : Bool) (f : List ℕ) (bs : List Block) : Type 0 where
  pub allowed : AllAllowed zxe bs
  pub decodes : decoded_octets bs ≡ with_phantom f

-- Whichever blocks encode a frame, their octets, codes and data, are as many as what is sent of it uninterrupted, or more.
abbrev pub Shortest : Type 0
Shortest = (zxe : Bool) (f : List ℕ) (bs : List Block) → EncodedBy zxe f bs → length (uninterrupted zxe f) ≤ length (line_octets bs)

-- Of the blocks with which a list that encodes a frame can begin, the chosen one covers the most octets of D. (So it is at every place: each
-- rest of a D is the D of a frame.) That leaves one choice, since what a block covers tells its code.
abbrev pub CoversMost : Type 0
CoversMost = (zxe : Bool) (f : List ℕ) (b : Block) (bs : List Block) → EncodedBy zxe f (b ∷ bs)
    → length b.data_octets + zeros_after b ≤ covered_by (choice zxe (with_phantom f))

-- Without ZXE none but the sender's encode it.
abbrev pub OneListWithoutZxe : Type 0
OneListWithoutZxe = (f : List ℕ) (bs : List Block) → EncodedBy false f bs → bs ≡ blocks false (with_phantom f)

-- ZXE never costs an octet.
abbrev pub ZxeNeverLonger : Type 0
ZxeNeverLonger = (f : List ℕ) → length (uninterrupted true f) ≤ length (uninterrupted false f)

-- ---- computed

-- How many octets are sent of a frame without ZXE, and with it. The phantom is one zero more than the frame has.
abbrev pub octets_sent : List ℕ → List ℕ
octets_sent f = length (uninterrupted false f) ∷ length (uninterrupted true f) ∷ []

pub record WorkedLengths : Type 0 where
  pub two_zeros : octets_sent (1 ∷ 0 ∷ 0 ∷ []) ≡ 4 ∷ 3 ∷ []
  pub four_zeros : octets_sent (1 ∷ 0 ∷ 0 ∷ 0 ∷ 0 ∷ []) ≡ 6 ∷ 3 ∷ []
  pub fifteen : octets_sent (replicate 15 0) ≡ 16 ∷ 2 ∷ []
  pub sixteen : octets_sent (replicate 16 0) ≡ 17 ∷ 2 ∷ []
  pub twenty_nine : octets_sent (replicate 29 0) ≡ 30 ∷ 2 ∷ []
  pub one_at_30 : octets_sent (replicate 30 1 ++ 0 ∷ []) ≡ 32 ∷ 31 ∷ []
  pub one_at_31 : octets_sent (replicate 31 1 ++ 0 ∷ []) ≡ 33 ∷ 33 ∷ []
  pub two_at_30 : octets_sent (replicate 30 1 ++ 0 ∷ 0 ∷ []) ≡ 33 ∷ 32 ∷ []
  pub two_at_31 : octets_sent (replicate 31 1 ++ 0 ∷ 0 ∷ []) ≡ 34 ∷ 33 ∷ []
  pub full : octets_sent (replicate 207 1) ≡ 209 ∷ 209 ∷ []

-- With ZXE others can be as short: E1 01, D4 is sent of 01 and five zeros, and 02 01, D5 encodes that frame too.
abbrev pub another : List Block
another = record { code = 0x02; data_octets = 1 ∷ [] } ∷ record { code = 0xD5; data_octets = [] } ∷ []

pub record AnotherWithZxe : Type 0 where
  pub encodes : EncodedBy true (1 ∷ replicate 5 0) another
  pub as_short : length (line_octets another) ≡ length (uninterrupted true (1 ∷ replicate 5 0))
  pub differs : another ≡ blocks true (with_phantom (1 ∷ replicate 5 0)) → ⊥
