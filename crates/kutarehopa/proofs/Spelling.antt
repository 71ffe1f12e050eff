-- Octets and the states that they spell.
use mathlib.Core.Path.{◌≡◌, refl, sym, ap, ◌∙◌}
use mathlib.Core.Bool.{Bool, true, false, ◌&&◌, ◌||◌}
use mathlib.Core.List.{List, [], ◌∷◌, ◌++◌}
use Prim.Native.Nat.{ℕ, zero, suc, ◌+◌, ◌*◌, ◌<◌}
use native.Mathlib.Nat.{zero-add}
use native.Mathlib.Omega.{arith}
use borrow.Author.Tests.{leb-true, eqb-true, eqb-false, eq-eqb}
use lib.Dec.{leb, eqb}
use lib.ListN.{length, drop, get_or, get_or-append}
use lib.Seq.{get_or-append-add, ext_get_or}
use Rattle.std.specs.Prelude.{Some, None, is_some}
use Rattle.std.specs.Prelude.{if◌then◌else◌}
use Rattle.cobs.proofs.Tests.{and_left, and_right}
use Rattle.link.proofs.Tests.{ands}
use Rattle.link.specs.Agreed.{Agreed, agreed}
use Rattle.link.specs.Receiver.{Held, holds, carried}
use Rattle.link.specs.declared.sender.Lane.TheVariants.{Low as low, High as high}
use Rattle.link.specs.Sender.{OnLine}
use Rattle.link.specs.declared.sender.Sender.{Sender}
use Rattle.link.specs.declared.receiver.LastBlock.{LastBlock}
use Rattle.link.specs.declared.receiver.LastBlock.TheVariants.{NoBlock as no_block, BlockD0 as block_d0, OtherBlock as other_block}
use Rattle.link.specs.declared.receiver.Mode.{Mode}
use Rattle.link.specs.declared.receiver.Mode.TheVariants.{Off as kept_off, Cobs as cobs, Plain as plain, Escaped as escape_open}
use Rattle.link.specs.declared.receiver.Receiver.{Receiver}
use Rattle.link.specs.declared.plain_sender.PlainSender.{PlainSender}
use Rattle.kutarehopa.specs.Layout.{octet_at, long_at, mark_at, octets_from, low_octet, high_octet, second_octet, third_octet, fourth_octet, mark_octet, settings_in, last_block_of, last_block_octet, mode_of, mode_octet, held_count, held_octet, spell_receiver, receiver_in, receiver_octets, line_of, line_octet, spell_sender, sender_in, sender_octets, spell_plain_sender, plain_sender_in, plain_sender_octets, over}
use Rattle.kutarehopa.specs.Spelling.{places_if_held, receiver_places, sender_places, octets_at, plain_sender_part, PackedSpellsItself, PackedAgain, LooksNowhereElse}

-- ---- a field in octets and back

number-back : (n : ℕ) → low_octet n + 256 * high_octet n ≡ n
number-back n = omega arith

mark-small : (b : Bool) → leb (mark_octet b) 1 ≡ true
mark-small true = refl
mark-small false = refl

mark-back : (b : Bool) → eqb (mark_octet b) 1 ≡ b
mark-back true = refl
mark-back false = refl

long-back : (n : ℕ) → low_octet n + 256 * second_octet n + 65536 * third_octet n + 16777216 * fourth_octet n ≡ n
long-back n = omega arith

held_back : (g : Agreed) (f : Held)
    → (if eqb (held_octet f) 1 then holds (low_octet (held_count f) + 256 * high_octet (held_count f)) (carried g f) else None) ≡ f
held_back g None = refl
held_back g (Some f) = rw (number-back f.count)

-- where nothing is held the register is at its start
start_back : (g : Agreed) (f : Held) → (eqb (held_octet f) 1 || eqb (carried g f) (carried g None)) ≡ true
start_back g None = eq-eqb (carried g None) (carried g None) refl
start_back g (Some f) = refl

last-small : (b : LastBlock) → leb (last_block_octet b) 2 ≡ true
last-small no_block = refl
last-small block_d0 = refl
last-small other_block = refl

last-back : (b : LastBlock) → last_block_of (last_block_octet b) ≡ b
last-back no_block = refl
last-back block_d0 = refl
last-back other_block = refl

mode_small : (k : Mode) → leb (mode_octet k) 3 ≡ true
mode_small kept_off = refl
mode_small cobs = refl
mode_small plain = refl
mode_small escape_open = refl

mode-back : (k : Mode) → mode_of (mode_octet k) ≡ k
mode-back kept_off = refl
mode-back cobs = refl
mode-back plain = refl
mode-back escape_open = refl

line_small : (o : OnLine) → leb (line_octet o) 2 ≡ true
line_small None = refl
line_small (Some low) = refl
line_small (Some high) = refl

line-back : (o : OnLine) → line_of (line_octet o) ≡ o
line-back None = refl
line-back (Some low) = refl
line-back (Some high) = refl

-- ---- octets as a field and back

low_again : (a b : ℕ) → a < 256 → low_octet (a + 256 * b) ≡ a
low_again a b h = omega arith

high-again : (a b : ℕ) → a < 256 → high_octet (a + 256 * b) ≡ b
high-again a b h = omega arith

-- of four
module _ (a b c d : ℕ) (h : a < 256) where
  abbrev long : ℕ
  long = a + 256 * b + 65536 * c + 16777216 * d

  first-again : low_octet long ≡ a
  first-again = omega arith

  second-again : b < 256 → second_octet long ≡ b
  second-again i = omega arith

  third-again : b < 256 → c < 256 → third_octet long ≡ c
  third-again i j = omega arith

  fourth-again : b < 256 → c < 256 → fourth_octet long ≡ d
  fourth-again i j = omega arith

mark-again : (n : ℕ) → leb n 1 ≡ true → mark_octet (eqb n 1) ≡ n
mark-again zero h = refl
mark-again (suc zero) h = refl
mark-again (suc (suc n)) h = absurd (omega (arith, leb-true (suc (suc n)) 1 h))

last-again : (n : ℕ) → leb n 2 ≡ true → last_block_octet (last_block_of n) ≡ n
last-again zero h = refl
last-again (suc zero) h = refl
last-again (suc (suc zero)) h = refl
last-again (suc (suc (suc n))) h = absurd (omega (arith, leb-true (suc (suc (suc n))) 2 h))

mode-again : (n : ℕ) → leb n 3 ≡ true → mode_octet (mode_of n) ≡ n
mode-again zero h = refl
mode-again (suc zero) h = refl
mode-again (suc (suc zero)) h = refl
mode-again (suc (suc (suc zero))) h = refl
mode-again (suc (suc (suc (suc n)))) h = absurd (omega (arith, leb-true (suc (suc (suc (suc n)))) 3 h))

line-again : (n : ℕ) → leb n 2 ≡ true → line_octet (line_of n) ≡ n
line-again zero h = refl
line-again (suc zero) h = refl
line-again (suc (suc zero)) h = refl
line-again (suc (suc (suc n))) h = absurd (omega (arith, leb-true (suc (suc (suc n))) 2 h))

-- ---- some octets

module _ (m : List ℕ) where
  pub from-length : (i k : ℕ) → length (octets_from m i k) ≡ k
  unfolding octets_from
  from-length i zero = refl
  from-length i (suc k) = ap suc (from-length (i + 1) k)

  -- each of them
  pub from_at : (i k j : ℕ) → j < k → get_or (octets_from m i k) j 0 ≡ octet_at m (i + j)
  unfolding octets_from
  from_at i zero j h = absurd (omega arith)
  from_at i (suc k) zero h = ap (octet_at m) (omega arith)
  from_at i (suc k) (suc j) h = from_at (i + 1) k j (omega arith) ∙ ap (octet_at m) (omega arith)

  pub at_first : (j : ℕ) → j < 36 → get_or (plain_sender_part m) j 0 ≡ octet_at m j
  at_first j h = from_at 0 36 j h ∙ ap (octet_at m) (zero-add j)

-- they are those of a list that stands there
pub from_is : (m l : List ℕ) (i k : ℕ) → length l ≡ k → ((j : ℕ) → j < k → octet_at m (i + j) ≡ get_or l j 0) → octets_from m i k ≡ l
from_is m l i k full at =
    let n = from-length m i k in
    ext_get_or 0 (octets_from m i k) l (n ∙ sym full) (λ j h. let less : j < k = omega arith in from_at m i k j less ∙ at j less)

-- ---- states

receiver-spelled : (r : Receiver) (m : List ℕ) → spell_receiver (over (receiver_octets r) m) ≡ true
unfolding spell_receiver receiver_octets
receiver-spelled r m =
    rw (
      number-back r.settings.limit,
      long-back (carried (agreed r.settings) r.held),
      mode_small r.mode,
      mark-small r.turn,
      mark-small (is_some r.held),
      last-small r.last,
      mark-small r.framed,
      mark-small r.resumed,
    )
    (start_back (agreed r.settings) r.held)

receiver-back : (r : Receiver) (m : List ℕ) → receiver_in (over (receiver_octets r) m) ≡ r
unfolding receiver_in receiver_octets
receiver-back r m =
    rw (
      number-back r.settings.limit,
      mode-back r.mode,
      long-back r.map,
      mark-back r.turn,
      number-back r.decoded,
      long-back (carried (agreed r.settings) r.held),
      held_back (agreed r.settings) r.held,
      last-back r.last,
      mark-back r.framed,
      mark-back r.resumed,
    )

sender-spelled : (s : Sender) (m : List ℕ) → spell_sender (over (sender_octets s) m) ≡ true
unfolding spell_sender sender_octets
sender-spelled s m = rw (line_small s.on, mark-small s.suspended, mark-small s.cut)

sender-back : (s : Sender) (m : List ℕ) → sender_in (over (sender_octets s) m) ≡ s
unfolding sender_in sender_octets
sender-back s m =
    rw (
      line-back s.on,
      mark-back s.suspended,
      mark-back s.cut,
      number-back s.settings.limit,
      number-back s.low.length,
      number-back s.low.position,
      number-back s.high.length,
      number-back s.high.position,
    )

plain-spelled : (s : PlainSender) (m : List ℕ) → spell_plain_sender (over (plain_sender_octets s) m) ≡ true
unfolding spell_plain_sender plain_sender_octets
plain-spelled s m = refl

plain_back : (s : PlainSender) (m : List ℕ) → length s.marks ≡ 32 → plain_sender_in (over (plain_sender_octets s) m) ≡ s
unfolding plain_sender_in plain_sender_octets
plain_back s m full =
    let front : List ℕ = 1 ∷ s.width ∷ low_octet s.limit ∷ high_octet s.limit ∷ [] in
    let behind = drop (length (plain_sender_octets s)) m in
    rw (
      number-back s.limit,
      from_is (over (plain_sender_octets s) m) s.marks 4 32 full (λ j h. get_or-append-add front (s.marks ++ behind) j 0 ∙ get_or-append s.marks behind 0 j (omega arith)),
    )

pub packed-spells-itself : PackedSpellsItself
packed-spells-itself =
    record {
      receiver = λ r m. (receiver-spelled r m, receiver-back r m);
      sender = λ s m. (sender-spelled s m, sender-back s m);
      plain_sender = λ s m full. (plain-spelled s m, plain_back s m full);
    }

-- ---- packed again

-- the tests of `spell_receiver` and of `spell_sender`, one by one
abbrev ReceiverTests : List ℕ → Type 0
ReceiverTests m =
    (eqb (octet_at m 0) 1 ≡ true)
    × (leb (octet_at m 5) 3 ≡ true)
    × (leb (octet_at m 10) 1 ≡ true)
    × (leb (octet_at m 13) 1 ≡ true)
    × (leb (octet_at m 22) 2 ≡ true)
    × (leb (octet_at m 23) 1 ≡ true)
    × (leb (octet_at m 24) 1 ≡ true)
    × ((mark_at m 13 || eqb (long_at m 16) (carried (agreed (settings_in m)) None)) ≡ true)

receiver-tests : (m : List ℕ) → spell_receiver m ≡ true → ReceiverTests m
unfolding spell_receiver
receiver-tests m s =
    let start = mark_at m 13 || eqb (long_at m 16) (carried (agreed (settings_in m)) None) in
    let two = eqb (octet_at m 0) 1 && leb (octet_at m 5) 3 in
    let seven = two && leb (octet_at m 10) 1 && leb (octet_at m 13) 1 && leb (octet_at m 22) 2 && leb (octet_at m 23) 1 && leb (octet_at m 24) 1 in
    let t = ands two (leb (octet_at m 10) 1) (leb (octet_at m 13) 1) (leb (octet_at m 22) 2) (leb (octet_at m 23) 1) (leb (octet_at m 24) 1) (and_left seven start s) in
    let u = ands true true true true (eqb (octet_at m 0) 1) (leb (octet_at m 5) 3) t.0 in
    (u.4, u.5, t.1, t.2, t.3, t.4, t.5, and_right seven start s)

abbrev SenderTests : List ℕ → Type 0
SenderTests m = (eqb (octet_at m 0) 1 ≡ true) × (leb (octet_at m 5) 2 ≡ true) × (leb (octet_at m 6) 1 ≡ true) × (leb (octet_at m 7) 1 ≡ true)

sender-tests : (m : List ℕ) → spell_sender m ≡ true → SenderTests m
unfolding spell_sender
sender-tests m s =
    let t = ands true true (eqb (octet_at m 0) 1) (leb (octet_at m 5) 2) (leb (octet_at m 6) 1) (leb (octet_at m 7) 1) s in
    (t.2, t.3, t.4, t.5)

module _ (m : List ℕ) (o : (i : ℕ) → octet_at m i < 256) where
  receiver-again : ReceiverTests m → (held : Bool) → mark_at m 13 ≡ held
      → octets_at (over (receiver_octets (receiver_in m)) m) (places_if_held held) ≡ octets_at m (places_if_held held)
  unfolding receiver_in receiver_octets
  receiver-again t true h =
      rw (
        h,
        eqb-true (octet_at m 0) 1 t.0,
        low_again (octet_at m 2) (octet_at m 3) (o 2),
        high-again (octet_at m 2) (octet_at m 3) (o 2),
        mode-again (octet_at m 5) t.1,
        first-again (octet_at m 6) (octet_at m 7) (octet_at m 8) (octet_at m 9) (o 6),
        second-again (octet_at m 6) (octet_at m 7) (octet_at m 8) (octet_at m 9) (o 6) (o 7),
        third-again (octet_at m 6) (octet_at m 7) (octet_at m 8) (octet_at m 9) (o 6) (o 7) (o 8),
        fourth-again (octet_at m 6) (octet_at m 7) (octet_at m 8) (octet_at m 9) (o 6) (o 7) (o 8),
        mark-again (octet_at m 10) t.2,
        low_again (octet_at m 11) (octet_at m 12) (o 11),
        high-again (octet_at m 11) (octet_at m 12) (o 11),
        eqb-true (octet_at m 13) 1 h,
        last-again (octet_at m 22) t.4,
        mark-again (octet_at m 23) t.5,
        mark-again (octet_at m 24) t.6,
        low_again (octet_at m 14) (octet_at m 15) (o 14),
        high-again (octet_at m 14) (octet_at m 15) (o 14),
        first-again _ _ _ _ (o 16),
        second-again _ _ _ _ (o 16) (o 17),
        third-again _ _ _ _ (o 16) (o 17) (o 18),
        fourth-again _ _ _ _ (o 16) (o 17) (o 18),
      )
  receiver-again t false h =
      let none : octet_at m 13 ≡ 0 = omega (arith, leb-true (octet_at m 13) 1 t.3, eqb-false (octet_at m 13) 1 h) in
      let start : carried (agreed (settings_in m)) None ≡ long_at m 16 = sym (eqb-true (long_at m 16) _ (rw h at t.7)) in
      rw (
        h,
        start,
        first-again _ _ _ _ (o 16),
        second-again _ _ _ _ (o 16) (o 17),
        third-again _ _ _ _ (o 16) (o 17) (o 18),
        fourth-again _ _ _ _ (o 16) (o 17) (o 18),
        eqb-true (octet_at m 0) 1 t.0,
        low_again (octet_at m 2) (octet_at m 3) (o 2),
        high-again (octet_at m 2) (octet_at m 3) (o 2),
        mode-again (octet_at m 5) t.1,
        first-again (octet_at m 6) (octet_at m 7) (octet_at m 8) (octet_at m 9) (o 6),
        second-again (octet_at m 6) (octet_at m 7) (octet_at m 8) (octet_at m 9) (o 6) (o 7),
        third-again (octet_at m 6) (octet_at m 7) (octet_at m 8) (octet_at m 9) (o 6) (o 7) (o 8),
        fourth-again (octet_at m 6) (octet_at m 7) (octet_at m 8) (octet_at m 9) (o 6) (o 7) (o 8),
        mark-again (octet_at m 10) t.2,
        low_again (octet_at m 11) (octet_at m 12) (o 11),
        high-again (octet_at m 11) (octet_at m 12) (o 11),
        none,
        last-again (octet_at m 22) t.4,
        mark-again (octet_at m 23) t.5,
        mark-again (octet_at m 24) t.6,
      )

  sender-again : SenderTests m → octets_at (over (sender_octets (sender_in m)) m) sender_places ≡ octets_at m sender_places
  unfolding sender_in sender_octets
  sender-again t =
      rw (
        eqb-true (octet_at m 0) 1 t.0,
        low_again (octet_at m 2) (octet_at m 3) (o 2),
        high-again (octet_at m 2) (octet_at m 3) (o 2),
        line-again (octet_at m 5) t.1,
        mark-again (octet_at m 6) t.2,
        mark-again (octet_at m 7) t.3,
        low_again (octet_at m 8) (octet_at m 9) (o 8),
        high-again (octet_at m 8) (octet_at m 9) (o 8),
        low_again (octet_at m 10) (octet_at m 11) (o 10),
        high-again (octet_at m 10) (octet_at m 11) (o 10),
        low_again (octet_at m 12) (octet_at m 13) (o 12),
        high-again (octet_at m 12) (octet_at m 13) (o 12),
        low_again (octet_at m 14) (octet_at m 15) (o 14),
        high-again (octet_at m 14) (octet_at m 15) (o 14),
      )

  -- what stands at each place of a plain sender
  plain_at : spell_plain_sender m ≡ true → (j : ℕ) → j < 36 → octet_at (over (plain_sender_octets (plain_sender_in m)) m) j ≡ octet_at m j
  unfolding spell_plain_sender plain_sender_in plain_sender_octets
  plain_at s zero h = sym (eqb-true (octet_at m 0) 1 s)
  plain_at s (suc zero) h = refl
  plain_at s (suc (suc zero)) h = low_again (octet_at m 2) (octet_at m 3) (o 2)
  plain_at s (suc (suc (suc zero))) h = high-again (octet_at m 2) (octet_at m 3) (o 2)
  plain_at s (suc (suc (suc (suc j)))) h =
      let l = octets_from m 4 32 in
      let first : get_or (l ++ drop (length (plain_sender_octets (plain_sender_in m))) m) j 0 ≡ get_or l j 0 = get_or-append l _ 0 j (omega (arith, from-length m 4 32)) in
      first ∙ (from_at m 4 32 j (omega arith) ∙ ap (octet_at m) (omega arith))

  plain-again : spell_plain_sender m ≡ true → plain_sender_part (over (plain_sender_octets (plain_sender_in m)) m) ≡ plain_sender_part m
  plain-again s =
      from_is (over (plain_sender_octets (plain_sender_in m)) m) (plain_sender_part m) 0 36 (from-length m 0 36)
      (λ j h. rw zero-add (plain_at s j h ∙ sym (at_first m j h)))

pub packed-again : PackedAgain
packed-again =
    record {
      receiver = λ m o s. receiver-again m o (receiver-tests m s) (mark_at m 13) refl;
      sender = λ m o s. sender-again m o (sender-tests m s);
      plain_sender = plain-again;
    }

-- ---- no other place

module _ (m n : List ℕ) where
  -- the octets at the k-th of some places
  same_at : (places : List ℕ) → octets_at n places ≡ octets_at m places → (k : ℕ) → get_or (octets_at n places) k 0 ≡ get_or (octets_at m places) k 0
  same_at places e k = ap (λ (l : List ℕ). get_or l k 0) e

  abbrev SameReceiver : Type 0
  SameReceiver = (octet_at n 0 ≡ octet_at m 0)
      × (octet_at n 1 ≡ octet_at m 1)
      × (octet_at n 2 ≡ octet_at m 2)
      × (octet_at n 3 ≡ octet_at m 3)
      × (octet_at n 4 ≡ octet_at m 4)
      × (octet_at n 5 ≡ octet_at m 5)
      × (octet_at n 6 ≡ octet_at m 6)
      × (octet_at n 7 ≡ octet_at m 7)
      × (octet_at n 8 ≡ octet_at m 8)
      × (octet_at n 9 ≡ octet_at m 9)
      × (octet_at n 10 ≡ octet_at m 10)
      × (octet_at n 11 ≡ octet_at m 11)
      × (octet_at n 12 ≡ octet_at m 12)
      × (octet_at n 13 ≡ octet_at m 13)
      × (octet_at n 16 ≡ octet_at m 16)
      × (octet_at n 17 ≡ octet_at m 17)
      × (octet_at n 18 ≡ octet_at m 18)
      × (octet_at n 19 ≡ octet_at m 19)
      × (octet_at n 20 ≡ octet_at m 20)
      × (octet_at n 21 ≡ octet_at m 21)
      × (octet_at n 22 ≡ octet_at m 22)
      × (octet_at n 23 ≡ octet_at m 23)
      × (octet_at n 24 ≡ octet_at m 24)
      × (octet_at n 25 ≡ octet_at m 25)

  same-receiver : (held : Bool) → octets_at n (places_if_held held) ≡ octets_at m (places_if_held held) → SameReceiver
  same-receiver held e = let at = same_at (places_if_held held) e in (at 0, at 1, at 2, at 3, at 4, at 5, at 6, at 7, at 8, at 9, at 10, at 11, at 12, at 13, at 14, at 15, at 16, at 17, at 18, at 19, at 20, at 21, at 22, at 23)

  same-held : (held : Bool) → mark_at m 13 ≡ held → octets_at n (places_if_held held) ≡ octets_at m (places_if_held held)
      → (if mark_at m 13 then holds (octet_at n 14 + 256 * octet_at n 15) (long_at m 16) else None)
      ≡ (if mark_at m 13 then holds (octet_at m 14 + 256 * octet_at m 15) (long_at m 16) else None)
  same-held true h e =
      let at = same_at (places_if_held true) e in
      let low : octet_at n 14 ≡ octet_at m 14 = at 24 in
      let high : octet_at n 15 ≡ octet_at m 15 = at 25 in
      rw (low, high)
  same-held false h e = rw h

  receiver-nowhere : octets_at n (receiver_places m) ≡ octets_at m (receiver_places m) → (spell_receiver n ≡ spell_receiver m) × (receiver_in n ≡ receiver_in m)
  unfolding spell_receiver receiver_in
  receiver-nowhere e =
      let p = same-receiver (mark_at m 13) e in (
        rw (p.0, p.1, p.2, p.3, p.4, p.5, p.10, p.13, p.14, p.15, p.16, p.17, p.20, p.21, p.22),
        rw (p.1, p.2, p.3, p.4, p.5, p.6, p.7, p.8, p.9, p.10, p.11, p.12, p.13, p.14, p.15, p.16, p.17, p.18, p.19, p.20, p.21, p.22, p.23, same-held (mark_at m 13) refl e),
      )

  abbrev SameSender : Type 0
  SameSender = (octet_at n 0 ≡ octet_at m 0)
      × (octet_at n 1 ≡ octet_at m 1)
      × (octet_at n 2 ≡ octet_at m 2)
      × (octet_at n 3 ≡ octet_at m 3)
      × (octet_at n 4 ≡ octet_at m 4)
      × (octet_at n 5 ≡ octet_at m 5)
      × (octet_at n 6 ≡ octet_at m 6)
      × (octet_at n 7 ≡ octet_at m 7)
      × (octet_at n 8 ≡ octet_at m 8)
      × (octet_at n 9 ≡ octet_at m 9)
      × (octet_at n 10 ≡ octet_at m 10)
      × (octet_at n 11 ≡ octet_at m 11)
      × (octet_at n 12 ≡ octet_at m 12)
      × (octet_at n 13 ≡ octet_at m 13)
      × (octet_at n 14 ≡ octet_at m 14)
      × (octet_at n 15 ≡ octet_at m 15)
      × (octet_at n 16 ≡ octet_at m 16)
      × (octet_at n 17 ≡ octet_at m 17)

  same-sender : octets_at n sender_places ≡ octets_at m sender_places → SameSender
  same-sender e = let at = same_at sender_places e in (at 0, at 1, at 2, at 3, at 4, at 5, at 6, at 7, at 8, at 9, at 10, at 11, at 12, at 13, at 14, at 15, at 16, at 17)

  sender-nowhere : octets_at n sender_places ≡ octets_at m sender_places → (spell_sender n ≡ spell_sender m) × (sender_in n ≡ sender_in m)
  unfolding spell_sender sender_in
  sender-nowhere e =
      let p = same-sender e in (
        rw (p.0, p.5, p.6, p.7),
        rw (p.1, p.2, p.3, p.4, p.5, p.6, p.7, p.8, p.9, p.10, p.11, p.12, p.13, p.14, p.15, p.16, p.17),
      )

  plain-nowhere : plain_sender_part n ≡ plain_sender_part m → (spell_plain_sender n ≡ spell_plain_sender m) × (plain_sender_in n ≡ plain_sender_in m)
  unfolding spell_plain_sender plain_sender_in
  plain-nowhere e =
      let at : (j : ℕ) → j < 36 → octet_at n j ≡ octet_at m j = λ j h. sym (at_first n j h) ∙ (ap (λ (l : List ℕ). get_or l j 0) e ∙ at_first m j h) in
      let same : octets_from n 4 32 ≡ octets_from m 4 32 =
      from_is n (octets_from m 4 32) 4 32 (from-length m 4 32) (λ j h. at (4 + j) (omega arith) ∙ sym (from_at m 4 32 j h)) in
      (rw (at 0 (omega arith)), rw (at 1 (omega arith), at 2 (omega arith), at 3 (omega arith), same))

pub looks-nowhere-else : LooksNowhereElse
looks-nowhere-else = record { receiver = receiver-nowhere; sender = sender-nowhere; plain_sender = plain-nowhere }
