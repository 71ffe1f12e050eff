-- A program that loads packets and writes its line in pieces puts on it what the sender's calls answer one by one (link's Runs.antt), however
-- the line is cut. Each is proved in proofs/Pieces.antt.
use Rattle.std.specs.Prelude.{List, [], ◌∷◌, ◌++◌, ◌≡◌, ℕ, ◌≤◌, length, take, drop, replicate}
use Rattle.cobs.specs.CodeBlocks.{flag}
use Rattle.link.specs.Answers.{octet}
use Rattle.link.specs.declared.sender.Lane.{Lane}
use Rattle.link.specs.Sender.{SenderEnd, lane_area, load, out_answer, next}
use Rattle.link.specs.Runs.{SenderCall, loading, next_octet, Station, with_area, run, written, written_octets}
use Rattle.writer.specs.Writing.{Wrote, write_on, onto}

-- ---- the program

-- a step of it: any list is loaded into a lane as a packet, or a piece of the line is written that has room for so many octets
pub data ProgramStep : Type 0 where
  loads : Lane → List ℕ → ProgramStep
  piece : ℕ → ProgramStep

-- the sender and its areas after a load, and after a piece, which leaves the areas as they are
abbrev pub after_loading : Lane → List ℕ → SenderEnd → SenderEnd
after_loading l p e = with_area l (load l p e.state (lane_area l e)) e

abbrev pub after_piece : Wrote → SenderEnd → SenderEnd
after_piece r e = record { state = r.state; low = e.low; high = e.high }

-- all octets written, and the sender with its areas afterwards
pub record InPieces : Type 0 where
  pub octets : List ℕ
  pub end : SenderEnd

-- step by step, each from the sender as the step before left it
unfoldable pub in_pieces : SenderEnd → List ProgramStep → InPieces
in_pieces e [] = record { octets = []; end = e }
in_pieces e (loads l p ∷ steps) = in_pieces (after_loading l p e) steps
in_pieces e (piece n ∷ steps) =
    let r = write_on n e in
    let rest = in_pieces (after_piece r e) steps in
    record { octets = r.octets ++ rest.octets; end = rest.end }

-- the calls that the steps come to: a load is one; a piece is as many calls of next octet as it wrote octets
unfoldable pub calls_of : SenderEnd → List ProgramStep → List SenderCall
calls_of e [] = []
calls_of e (loads l p ∷ steps) = loading l p ∷ calls_of (after_loading l p e) steps
calls_of e (piece n ∷ steps) = let r = write_on n e in replicate (length r.octets) next_octet ++ calls_of (after_piece r e) steps

-- ---- however the line is cut

-- The octets are those that the calls write, and the sender and its areas end as the calls leave them.
pub record AsItsCalls (w : Station) (steps : List ProgramStep) : Type 0 where
  pub octets : (in_pieces w.end steps).octets ≡ written_octets (written w (calls_of w.end steps))
  pub end : (in_pieces w.end steps).end ≡ (run w (calls_of w.end steps)).end

-- from any state, with any areas, by any steps
abbrev pub HoweverCut : Type 0
HoweverCut = (w : Station) (steps : List ProgramStep) → AsItsCalls w steps

-- ---- where a piece ends

-- the call of next octet is answered Idle or refused
abbrev pub NoOctet : SenderEnd → Type 0
NoOctet e = (x : ℕ) → out_answer (next e).out ≡ octet x → ⊥

-- A piece with room for n octets ends where it is full, behind a flag, or where the next call answers no octet.
pub data Ends (n : ℕ) (e : SenderEnd) (r : Wrote) : Type 0 where
  full : length r.octets ≡ n → Ends n e r
  behind_flag : (xs : List ℕ) → r.octets ≡ xs ++ flag ∷ [] → Ends n e r
  no_octet : NoOctet (after_piece r e) → Ends n e r

-- A piece, written by the sender e.
--   ends: it ends so
--   most, nothing_behind: at the first such place, since it is never overfull, and nothing stands behind a flag
--   least: with room for an octet it has one, unless the first call answers none
pub record Piece (n : ℕ) (e : SenderEnd) (r : Wrote) : Type 0 where
  pub ends : Ends n e r
  pub most : length r.octets ≤ n
  pub nothing_behind : (xs ys : List ℕ) → r.octets ≡ xs ++ flag ∷ ys → ys ≡ []
  pub least : 1 ≤ n → (x : ℕ) → out_answer (next e).out ≡ octet x → 1 ≤ length r.octets

abbrev pub WherePiecesEnd : Type 0
WherePiecesEnd = (n : ℕ) (e : SenderEnd) → Piece n e (write_on n e)

-- ---- on the line that was lent

-- A piece on a line: its octets are the first, as many as are filled; those behind them stay.
pub record Lent (line : List ℕ) (r : Wrote) : Type 0 where
  pub octets : take (onto line r).filled (onto line r).line ≡ r.octets
  pub behind : drop (onto line r).filled (onto line r).line ≡ drop (length r.octets) line
  pub state : (onto line r).state ≡ r.state

-- of every line, whatever stood on it
abbrev pub OnTheLine : Type 0
OnTheLine = (line : List ℕ) (e : SenderEnd) → Lent line (write_on (length line) e)
