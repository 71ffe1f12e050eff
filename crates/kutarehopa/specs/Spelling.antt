-- Octets and the states that they spell. Each is proved in proofs/Spelling.antt.
use Rattle.std.specs.Prelude.{Bool, true, List, [], ◌∷◌, map, ◌≡◌, ℕ, ◌<◌, length}
use Rattle.std.specs.Prelude.{if◌then◌else◌}
use Rattle.link.specs.declared.sender.Sender.{Sender}
use Rattle.link.specs.declared.receiver.Receiver.{Receiver}
use Rattle.link.specs.declared.plain_sender.PlainSender.{PlainSender}
use Rattle.kutarehopa.specs.Layout.{octet_at, octets_from, mark_at, spell_receiver, receiver_in, receiver_octets, spell_sender, sender_in, sender_octets, spell_plain_sender, plain_sender_in, plain_sender_octets, over}

-- ---- the places that are looked at

-- a held count only where something is held
abbrev pub places_if_held : Bool → List ℕ
places_if_held held =
    0 ∷ 1 ∷ 2 ∷ 3 ∷ 4 ∷ 5 ∷ 6 ∷ 7 ∷ 8 ∷ 9 ∷ 10 ∷ 11 ∷ 12 ∷ 13 ∷ 16 ∷ 17 ∷ 18 ∷ 19 ∷ 20 ∷ 21 ∷ 22 ∷ 23 ∷ 24 ∷ 25 ∷ (if held then 14 ∷ 15 ∷ [] else [])

abbrev pub receiver_places : List ℕ → List ℕ
receiver_places m = places_if_held (mark_at m 13)

abbrev pub sender_places : List ℕ
sender_places = 0 ∷ 1 ∷ 2 ∷ 3 ∷ 4 ∷ 5 ∷ 6 ∷ 7 ∷ 8 ∷ 9 ∷ 10 ∷ 11 ∷ 12 ∷ 13 ∷ 14 ∷ 15 ∷ 16 ∷ 17 ∷ []

-- the octets that stand there; of a plain sender the first 36
abbrev pub octets_at : List ℕ → List ℕ → List ℕ
octets_at m places = map (λ (i : ℕ). octet_at m i) places

abbrev pub plain_sender_part : List ℕ → List ℕ
plain_sender_part m = octets_from m 0 36

-- ---- and back

-- A packed state spells itself, whatever stood in the memory before.
pub record PackedSpellsItself : Type 0 where
  pub receiver : (r : Receiver) (m : List ℕ) → (spell_receiver (over (receiver_octets r) m) ≡ true) × (receiver_in (over (receiver_octets r) m) ≡ r)
  pub sender : (s : Sender) (m : List ℕ) → (spell_sender (over (sender_octets s) m) ≡ true) × (sender_in (over (sender_octets s) m) ≡ s)
  pub plain_sender : (s : PlainSender) (m : List ℕ) → length s.marks ≡ 32
      → (spell_plain_sender (over (plain_sender_octets s) m) ≡ true) × (plain_sender_in (over (plain_sender_octets s) m) ≡ s)

-- What octets spell, packed again, are those octets where they are looked at.
pub record PackedAgain : Type 0 where
  pub receiver : (m : List ℕ) → ((i : ℕ) → octet_at m i < 256) → spell_receiver m ≡ true
      → octets_at (over (receiver_octets (receiver_in m)) m) (receiver_places m) ≡ octets_at m (receiver_places m)
  pub sender : (m : List ℕ) → ((i : ℕ) → octet_at m i < 256) → spell_sender m ≡ true
      → octets_at (over (sender_octets (sender_in m)) m) sender_places ≡ octets_at m sender_places
  pub plain_sender : (m : List ℕ) → ((i : ℕ) → octet_at m i < 256) → spell_plain_sender m ≡ true
      → plain_sender_part (over (plain_sender_octets (plain_sender_in m)) m) ≡ plain_sender_part m

-- No other place is looked at.
pub record LooksNowhereElse : Type 0 where
  pub receiver : (m n : List ℕ) → octets_at n (receiver_places m) ≡ octets_at m (receiver_places m)
      → (spell_receiver n ≡ spell_receiver m) × (receiver_in n ≡ receiver_in m)
  pub sender : (m n : List ℕ) → octets_at n sender_places ≡ octets_at m sender_places → (spell_sender n ≡ spell_sender m) × (sender_in n ≡ sender_in m)
  pub plain_sender : (m n : List ℕ) → plain_sender_part n ≡ plain_sender_part m
      → (spell_plain_sender n ≡ spell_plain_sender m) × (plain_sender_in n ≡ plain_sender_in m)
