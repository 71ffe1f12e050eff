-- Writing on, octet by octet, at the numbers of the loop.
use mathlib.Core.Path.{◌≡◌, refl, sym, ap, ◌∙◌}
use mathlib.Core.Bool.{true, false, not, ◌&&◌}
use mathlib.Core.List.{List, ◌∷◌, ◌++◌, map, append-nil, append_assoc}
use Prim.Native.Nat.{ℕ, zero, suc, ◌+◌, ◌-◌, ◌≤◌, ◌<◌}
use native.Mathlib.Nat.{add-zero, zero-add, sub-zero}
use native.Mathlib.Numerals.{add-one}
use native.Mathlib.Omega.{arith}
use borrow.Author.Tests.{eqb-true, not-false}
use lib.Dec.{eqb}
use Rattle.std.proofs.lemmas.List.{take-map}
use lib.ListN.{length, take, drop, set, get_or, length-set, length-append, length-drop, length-map, take-append-drop}
use lib.Seq.{paste, take-suc-set, drop-set-lt, append_snoc, drop-cons, drop-drop, length-take-le, length-paste, take-paste, drop-paste}
use Rattle.std.specs.Prelude.{if◌then◌else◌}
use Rattle.cobs.specs.CodeBlocks.{flag, to_line}
use Rattle.link.specs.Answers.{Answer, done, octet, idle, quiet, packet, held, refused, next_answer, next_refusal}
use Rattle.link.specs.declared.sender.NextError.{NextError}
use Rattle.std.specs.Prelude.{Option, Some, None, Result, Ok, Err}
use Rattle.link.specs.declared.Settings.{Settings}
use Rattle.link.specs.declared.sender.Sender.{Sender}
use Rattle.link.specs.declared.sender.Lane.{Lane}
use Rattle.link.specs.declared.sender.Lane.TheVariants.{Low as low, High as high}
use Rattle.link.specs.Agreed.{agreed, largest_frame}
use Rattle.link.specs.Receiver.{write}
use Rattle.link.specs.Sender.{SenderEnd, Next, is_low, lane_area, lane_state, next, seen}
use Rattle.link.specs.SenderParts.{SenderReady}
use Rattle.link.proofs.EachCall.{settings-stay, idle-changes-nothing, refused-changes-nothing}
use Rattle.link.proofs.Agreed.{frame-at-most}
use Rattle.link.proofs.SenderBounds.{low-high}
use Rattle.link.proofs.WriteOn.{octet-ready, sent, Stretch, first, rest, inside, plain, block-in-area}
use Rattle.writer.specs.Writing.{Wrote, writes_nothing, octet_first, by_answer, write_on, from_place}
use Rattle.writer.specs.Pieces.{NoOctet}

-- ---- a line with its first i octets filled

-- nothing more is written
pub stays : (i : ℕ) (line : List ℕ) (s : Sender) → from_place i line (writes_nothing s) ≡ record { state = s; line = line; filled = i }
stays i line s = simp (add-zero, append-nil, take-append-drop)

-- one octet more
pub one_more : (i : ℕ) (line : List ℕ) (x : ℕ) (w : Wrote) → i < length line → from_place i line (octet_first x w) ≡ from_place (i + 1) (set line i x) w
one_more i line x w l =
    let n : i + suc (length w.octets) ≡ suc i + length w.octets = omega arith in
    let k : i < suc i + length w.octets = omega arith in
    rw (add-one, take-suc-set line i x, drop-set-lt (suc i + length w.octets) line i x k, append_snoc, n)

-- ---- the loop

-- a sender after a call, with the areas as they were
abbrev pub with : Sender → SenderEnd → SenderEnd
with s e = record { state = s; low = e.low; high = e.high }

pub ends : (e : SenderEnd) (line : List ℕ) (i : ℕ) → length line ≤ i
    → from_place i line (write_on (length line - i) e) ≡ record { state = e.state; line = line; filled = i }
unfolding write_on
ends e line i l = let z : length line - i ≡ 0 = omega arith in rw z (stays i line e.state)

-- what a call answers: an octet, none, or a refusal
abbrev NextAnswer : Type 0
NextAnswer = Result (Option ℕ) NextError

-- after an octet the sender is in bounds, and its areas are long enough
pub ready-after : (e : SenderEnd) (a : NextAnswer) (t : Sender) → record { answer = next_answer a; state = t } ≡ seen (next e) → (x : ℕ) → a ≡ Ok (Some x) → SenderReady (with t e)
ready-after e a t p x q = octet-ready e x t (rw q at p)

-- nor does a call change the settings
pub settings-kept : (e : SenderEnd) (a : NextAnswer) (t : Sender) → record { answer = next_answer a; state = t } ≡ seen (next e) → t.settings ≡ e.state.settings
settings-kept e a t p = ap (λ (h : Next). h.state.settings) p ∙ settings-stay.next e

-- and one that answers no octet leaves the sender as it was
unmoved : (e : SenderEnd) (a : NextAnswer) (t : Sender) → record { answer = next_answer a; state = t } ≡ seen (next e) → ((x : ℕ) → a ≡ Ok (Some x) → ⊥) → t ≡ e.state
unmoved e (Ok (Some x)) t p k = absurd (k x refl)
unmoved e (Ok None) t p k = ap (λ (h : Next). h.state) p ∙ idle-changes-nothing e (sym (ap (λ (h : Next). h.answer) p))
unmoved e (Err r) t p k = ap (λ (h : Next). h.state) p ∙ refused-changes-nothing.next e (next_refusal r) (sym (ap (λ (h : Next). h.answer) p))

-- a sender with settings stored in it; where they are its own, it writes on as it did
abbrev with_settings : Settings → Sender → Sender
with_settings t s =
    record {
      low = s.low;
      high = s.high;
      left = s.left;
      zeros = s.zeros;
      on = s.on;
      suspended = s.suspended;
      cut = s.cut;
      settings = t;
    }

pub settings-stored : (s : Sender) (t : Settings) (i : ℕ) (line : List ℕ) (n : ℕ) (al ah : List ℕ) → s.settings ≡ t
    → from_place i line (write_on n (record { state = s; low = al; high = ah })) ≡ from_place i line (write_on n (record { state = with_settings t s; low = al; high = ah }))
settings-stored s t i line n al ah e = ap (λ (x : Settings). from_place i line (write_on n (record { state = with_settings x s; low = al; high = ah }))) e

-- by the answer of a call
module _ (e : SenderEnd) (line : List ℕ) (i : ℕ) (l : i < length line) (a : NextAnswer) (t : Sender) (p : record { answer = next_answer a; state = t } ≡ seen (next e)) where
  room : length line - i ≡ suc (length line - (i + 1))
  room = omega arith

  written : write_on (length line - i) e ≡ by_answer (next_answer a) e.state t (write_on (length line - (i + 1)) (with t e))
  unfolding write_on
  written = rw room (ap (λ (h : Next). by_answer h.answer e.state h.state (write_on (length line - (i + 1)) (with h.state e))) (sym p))

  pub goes_on : (x : ℕ) → a ≡ Ok (Some x) → eqb x flag ≡ false
      → from_place i line (write_on (length line - i) e) ≡ from_place (i + 1) (set line i x) (write_on (length (set line i x) - (i + 1)) (with t e))
  goes_on x q f = rw (length-set, written, q, f) (one_more i line x _ l)

  pub at_flag : (x : ℕ) → a ≡ Ok (Some x) → eqb x flag ≡ true
      → from_place i line (write_on (length line - i) e) ≡ record { state = t; line = set line i x; filled = i + 1 }
  at_flag x q f = rw (written, q, f) (one_more i line x _ l ∙ stays (i + 1) (set line i x) t)

  -- any answer but an octet
  pub stops : ((x : ℕ) → a ≡ Ok (Some x) → ⊥) → from_place i line (write_on (length line - i) e) ≡ record { state = t; line = line; filled = i }
  stops k = rw (written, other a k, unmoved e a t p k) (stays i line e.state)
    where
      other : (b : NextAnswer) → ((x : ℕ) → b ≡ Ok (Some x) → ⊥)
          → by_answer (next_answer b) e.state t (write_on (length line - (i + 1)) (with t e)) ≡ writes_nothing e.state
      other (Ok (Some x)) k = absurd (k x refl)
      other (Ok None) k = refl
      other (Err n) k = refl

-- ---- a stretch of data octets

-- octets in front of the rest
abbrev ahead : List ℕ → Wrote → Wrote
ahead xs w = record { octets = xs ++ w.octets; state = w.state }

sent-zero : (l : Lane) (s : Sender) → sent 0 l s ≡ s
sent-zero low s = rw (sub-zero, add-zero)
sent-zero high s = rw (sub-zero, add-zero)

sent-suc : (n : ℕ) (l : Lane) (s : Sender) → sent n l (sent 1 l s) ≡ sent (suc n) l s
sent-suc n low s =
    let a : s.left - 1 - n ≡ s.left - suc n = omega arith in
    let b : s.low.position + 1 + n ≡ s.low.position + suc n = omega arith in
    rw (a, b)
sent-suc n high s =
    let a : s.left - 1 - n ≡ s.left - suc n = omega arith in
    let b : s.high.position + 1 + n ≡ s.high.position + suc n = omega arith in
    rw (a, b)

-- the octets of the stretch
abbrev data-of : ℕ → Lane → SenderEnd → List ℕ
data-of n l e = take n (map to_line (drop (lane_state l e.state).position (lane_area l e)))

data-suc : (n : ℕ) (l : Lane) (e : SenderEnd) → (lane_state l e.state).position < length (lane_area l e)
    → data-of (suc n) l e ≡ to_line (get_or (lane_area l e) (lane_state l e.state).position 0) ∷ data-of n l (with (sent 1 l e.state) e)
data-suc n low e h = rw (add-one, drop-cons e.low e.state.low.position 0)
data-suc n high e h = rw (add-one, drop-cons e.high e.state.high.position 0)

no_flag : (x : ℕ) (s t : Sender) (w : Wrote) → eqb x flag ≡ false → by_answer (octet x) s t w ≡ octet_first x w
no_flag x s t w f = rw f

writes : (n m : ℕ) (l : Lane) (e : SenderEnd) → Stretch l n e → write_on (n + m) e ≡ ahead (data-of n l e) (write_on m (with (sent n l e.state) e))
unfolding write_on
writes zero m l e h = rw (zero-add, sent-zero l e.state)
writes (suc n) m l e h =
    let s = e.state in
    let x = to_line (get_or (lane_area l e) (lane_state l s).position 0) in
    let t = sent 1 l s in
    let k : suc n + m ≡ suc (n + m) = omega arith in
    rw (k, data-suc n l e (inside n e l h), ← sent-suc n l s)
    (ap (λ (q : Next). by_answer q.answer s q.state (write_on (n + m) (with q.state e))) (sym (first n e l h))
    ∙ no_flag x s t _ (plain _)
    ∙ ap (octet_first x) (writes n m l (with t e) (rest n e l h)))

pastes : (at n : ℕ) (line xs : List ℕ) (w : Wrote) → at + n ≤ length line → n ≤ length xs
    → from_place at line (ahead (take n xs) w) ≡ from_place (at + n) (paste line at xs n) w
pastes at n line xs w l k =
    let o = w.octets in
    let a : at ≤ length line = omega arith in
    let c : at + (n + length o) ≡ at + n + length o = omega arith in
    rw (length-append (take n xs) o, length-take-le n xs k, c, take-paste line at xs n a k, ← drop-drop (length o) (at + n) (paste line at xs n), drop-paste line at xs n a k, drop-drop, ← append_assoc)

-- a stretch of n octets on the line
pub stretches : (l : Lane) (n : ℕ) (e : SenderEnd) (line : List ℕ) (at : ℕ) → Stretch l n e → at + n ≤ length line → (lane_state l e.state).position + n ≤ length (lane_area l e)
    → (let d = paste line at (map to_line (drop (lane_state l e.state).position (lane_area l e))) n in
    from_place at line (write_on (length line - at) e) ≡ from_place (at + n) d (write_on (length d - (at + n)) (with (sent n l e.state) e)))
stretches l n e line at h k j =
    let xs = map to_line (drop (lane_state l e.state).position (lane_area l e)) in
    let i : n ≤ length xs = rw (length-map (drop (lane_state l e.state).position (lane_area l e)) to_line, length-drop) (omega arith) in
    let r : length line - at ≡ n + (length line - (at + n)) = omega arith in
    rw (length-paste line at xs n k i, r, writes n (length line - (at + n)) l e h) (pastes at n line xs _ k i)

-- ---- the same as the code does it

-- n data octets of a lane's block are inside its area
pub record Inside (l : Lane) (n : ℕ) (e : SenderEnd) : Type 0 where
  pub within : (lane_state l e.state).position + n ≤ length (lane_area l e)
  pub counted : (lane_state l e.state).position + n < 65536

area-long : (l : Lane) (e : SenderEnd) → SenderReady e → largest_frame (agreed e.state.settings) ≤ length (lane_area l e)
area-long low e b = b.low
area-long high e b = b.high

pub inside-area : (l : Lane) (n : ℕ) (e : SenderEnd) → SenderReady e → e.state.on ≡ Some l → n < e.state.left → Inside l n e
inside-area l n e b o h =
    let k = block-in-area l e b o in
    record { within = omega (arith, k, area-long l e b); counted = omega (arith, k, frame-at-most e.state.settings b.valid) }

-- low does not give way to a packet of high's
pub stays_alone : (l : Lane) (n : ℕ) → (is_low l && not (eqb n 0)) ≡ false → l ≡ low → n ≡ 0
stays_alone low n t p = eqb-true n 0 (not-false (eqb n 0) t)
stays_alone high n t p = low-high p

-- the octets that are copied, and the sender after them
pub stretch-written : (l : Lane) (n : ℕ) (e : SenderEnd) (line after : List ℕ) (at : ℕ) (t : Sender) → Stretch l n e → Inside l n e → at + n ≤ length line
    → after ≡ write line at (map to_line (take n (drop (lane_state l e.state).position (lane_area l e)))) → t ≡ sent n l e.state
    → from_place at line (write_on (length line - at) e) ≡ from_place (at + n) after (write_on (length after - (at + n)) (with t e))
stretch-written l n e line after at t h i k w p =
    let xs = drop (lane_state l e.state).position (lane_area l e) in
    let m : length (map to_line (take n xs)) ≡ n = rw length-map (length-take-le n xs (rw length-drop (omega (arith, i.within)))) in
    let q : after ≡ paste line at (map to_line xs) n = w ∙ rw (m, ← take-map to_line n xs) in
    rw (q, p) (stretches l n e line at h k i.within)

-- ---- nothing written

-- what holds of nothing written, and of an octet with what follows it, holds of every answer
by-octet : (P : Wrote → Type 0) (a : Answer) (s t : Sender) (r : Wrote) → P (writes_nothing s)
    → ((x : ℕ) → a ≡ octet x → P (octet_first x (if eqb x flag then writes_nothing t else r))) → P (by_answer a s t r)
by-octet P done s t r n f = n
by-octet P (octet x) s t r n f = f x refl
by-octet P idle s t r n f = n
by-octet P quiet s t r n f = n
by-octet P (packet in_second k) s t r n f = n
by-octet P (held k replaced) s t r n f = n
by-octet P (refused k) s t r n f = n

-- where there is no room, nothing is written,
pub no_room : (e : SenderEnd) → write_on 0 e ≡ writes_nothing e.state
unfolding write_on
no_room e = refl

-- nor where the first call answers no octet
pub no-octet : (n : ℕ) (e : SenderEnd) → NoOctet e → write_on n e ≡ writes_nothing e.state
unfolding write_on
no-octet zero e k = refl
no-octet (suc n) e k = by-octet (λ (w : Wrote). w ≡ writes_nothing e.state) (seen (next e)).answer _ _ _ refl (λ x q. absurd (k x q))

-- where nothing is written, the sender is as it was
pub none_written : (n : ℕ) (e : SenderEnd) → length (write_on n e).octets ≡ 0 → (write_on n e).state ≡ e.state
unfolding write_on
none_written zero e = λ k. refl
none_written (suc n) e =
    by-octet (λ (w : Wrote). length w.octets ≡ 0 → w.state ≡ e.state) (seen (next e)).answer _ _ _ (λ k. refl) (λ x q k. absurd (omega (arith, k)))
