-- Octets stuffed: one more at a time, and the parts of a frame one after another.
use mathlib.Core.Path.{◌≡◌, sym, ap, ap₂, ◌∙◌}
use mathlib.Core.Bool.{true, false}
use mathlib.Core.List.{List, [], ◌∷◌, ◌++◌, append_assoc}
use Prim.Native.Nat.{ℕ, ◌+◌, ◌≤◌, ◌<◌, min}
use native.Mathlib.Numerals.{add-one, add-two}
use native.Mathlib.Omega.{arith}
use borrow.Author.Tests.{leb-true, leb-false, ltb-false, lt-ltb, le-ltb}
use Rattle.std.specs.Prelude.{Ok}
use Rattle.std.specs.List.{filter}
use lib.Dec.{leb, ltb}
use lib.ListN.{length, get_or, set, drop, length-append, drop_of_length-le}
use lib.Seq.{drop-cons, sets}
use Rattle.cobs.specs.CodeBlocks.{flag}
use Rattle.cobs.proofs.Tests.{decide}
use Rattle.plain.specs.Area.{write}
use Rattle.plain.specs.Maps.{escape, marked}
use Rattle.plain.specs.Stuffing.{Send, toggled, stuffed_octet, stuffed, line, send}
use Rattle.plain.proofs.Area.{all-written}
use Rattle.plain.proofs.Laws.{stuffed-nil, stuffed-cons, unmarked-octet, marked-octet, line-is, sends}

module _ (marks : List ℕ) where
  pub stuffed-append : (xs ys : List ℕ) → stuffed marks (xs ++ ys) ≡ stuffed marks xs ++ stuffed marks ys
  stuffed-append [] ys = rw stuffed-nil
  stuffed-append (x ∷ xs) ys = rw (stuffed-cons marks x (xs ++ ys), stuffed-cons marks x xs, stuffed-append xs ys, append_assoc)

  pub stuffed-length : (xs : List ℕ) → length (stuffed marks xs) ≡ length xs + length (filter (marked marks) xs)
  stuffed-length [] = rw stuffed-nil
  stuffed-length (x ∷ xs) =
      let e = ap length (stuffed-cons marks x xs) in
      let ih = stuffed-length xs in
      decide (marked marks x)
      (λ t. rw t (omega (arith, rw (length-append, marked-octet marks x t) at e)))
      (λ t. rw t (omega (arith, rw (length-append, unmarked-octet marks x t) at e)))

  -- ---- one octet more of a list

  module _ (s : List ℕ) (i : ℕ) where
    pub stuffed-next : i < length s → stuffed marks (drop i s) ≡ stuffed_octet marks (get_or s i 0) ++ stuffed marks (drop (i + 1) s)
    stuffed-next h = rw (add-one, drop-cons s i 0, stuffed-cons)

    pub stuffed-done : length s ≤ i → stuffed marks (drop i s) ≡ []
    stuffed-done h = rw (drop_of_length-le s {i = i} h, stuffed-nil)

    pub one-longer : i < length s → marked marks (get_or s i 0) ≡ false
        → length (stuffed marks (drop i s)) ≡ length (stuffed marks (drop (i + 1) s)) + 1
    one-longer h e = rw (stuffed-next h, unmarked-octet marks (get_or s i 0) e) (omega arith)

    pub two-longer : i < length s → marked marks (get_or s i 0) ≡ true
        → length (stuffed marks (drop i s)) ≡ length (stuffed marks (drop (i + 1) s)) + 2
    two-longer h e = rw (stuffed-next h, marked-octet marks (get_or s i 0) e) (omega arith)

  -- stored into an area
  module _ (s : List ℕ) (i : ℕ) (h : i < length s) (area : List ℕ) (end : ℕ) where
    pub one-stored : marked marks (get_or s i 0) ≡ false
        → sets area end (stuffed marks (drop i s)) ≡ sets (set area end (get_or s i 0)) (end + 1) (stuffed marks (drop (i + 1) s))
    one-stored e = rw (stuffed-next s i h, unmarked-octet marks (get_or s i 0) e, add-one end)

    pub two-stored : marked marks (get_or s i 0) ≡ true
        → sets area end (stuffed marks (drop i s))
        ≡ sets (set (set area end escape) (end + 1) (toggled (get_or s i 0))) (end + 2) (stuffed marks (drop (i + 1) s))
    two-stored e = rw (stuffed-next s i h, marked-octet marks (get_or s i 0) e, add-one end, add-two end)

  -- ---- a packet, the FCS behind it and the flag

  module _ (packet fcs : List ℕ) where
    pub line-length : length (line marks (packet ++ fcs)) ≡ length (stuffed marks packet) + length (stuffed marks fcs) + 1
    line-length = rw (line-is, length-append, stuffed-append, length-append)

    -- the code's test, by the sum of the parts, at most a number that the room is not above
    pub no-room : (room most : ℕ) → room ≤ most
        → leb room (min (length (stuffed marks packet) + length (stuffed marks fcs)) most) ≡ ltb room (length (line marks (packet ++ fcs)))
    no-room room most h =
        let m = min (length (stuffed marks packet) + length (stuffed marks fcs)) most in
        let l = length (line marks (packet ++ fcs)) in
        let e = line-length in
        decide (leb room m) (λ t. let k = leb-true room m t in t ∙ sym (lt-ltb room l (omega arith)))
        (λ t. let k = leb-false room m t in t ∙ sym (le-ltb room l (omega arith)))

    pub parts-fit : (room : ℕ) → ltb room (length (line marks (packet ++ fcs))) ≡ false
        → length (stuffed marks packet) + length (stuffed marks fcs) + 1 ≤ room
    parts-fit room t = omega (arith, ltb-false room (length (line marks (packet ++ fcs))) t, line-length)

    -- the code's stores: the packet's octets from the area's start, the FCS's behind them, and the flag
    pub stores : (area with-packet with-fcs : List ℕ) (at end : ℕ) → length (line marks (packet ++ fcs)) ≤ length area
        → with-packet ≡ write area 0 (stuffed marks packet) → at ≡ 0 + length (stuffed marks packet)
        → with-fcs ≡ write with-packet at (stuffed marks fcs) → end ≡ at + length (stuffed marks fcs)
        → record { answer = Ok (end + 1); area = set with-fcs end flag } ≡ send marks (packet ++ fcs) area
    stores area with-packet with-fcs at end h first p second q =
        let sent : ℕ → List ℕ → Send = λ n l. record { answer = Ok n; area = l } in
        let xs = stuffed marks packet in
        let ys = stuffed marks fcs in
        let n : end + 1 ≡ length (line marks (packet ++ fcs)) = omega (arith, line-length) in
        let e : xs ++ ys ++ (flag ∷ []) ≡ line marks (packet ++ fcs) = rw (line-is, stuffed-append) in
        let w = all-written area xs ys flag at end (omega (arith, line-length)) p q in
        let l : set with-fcs end flag ≡ write area 0 (line marks (packet ++ fcs)) = rw (second, first) (w ∙ ap (write area 0) e) in
        ap₂ sent n l ∙ sym (sends marks (packet ++ fcs) area h)
