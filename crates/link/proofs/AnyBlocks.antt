-- The receiver takes the blocks of any sender that keeps to the code table.
use mathlib.Core.Path.{◌≡◌, refl, sym, ap, subst, ◌∙◌}
use mathlib.Core.Bool.{Bool, true, false, not}
use mathlib.Core.List.{List, [], ◌∷◌, ◌++◌, map, append_assoc, Memᴰ}
use Prim.Native.Nat.{ℕ, zero, suc, ◌+◌, ◌-◌, ◌≤◌, ◌<◌}
use native.Mathlib.Omega.{arith}
use borrow.Author.Tests.{eqb-true, eqb-false, ne_eqb}
use lib.Dec.{eqb}
use lib.ListN.{length, drop, get_or, replicate, length-append, length-drop, length-replicate}
use lib.Seq.{drop-append_seam, drop-drop, get_or-drop, get_or_at}
use Rattle.cobs.specs.CodeBlocks.{frame, with_phantom, flag, to_line, Block, AllAllowed, zeros_after, decoded_octets, line_octets}
use Rattle.cobs.proofs.Tests.{branch, decide}
use Rattle.cobs.proofs.Table.{Row, read-row, numbers}
use Rattle.cobs.proofs.Exchange.{no_flag, to-other}
use Rattle.cobs.proofs.Blocks.{nonzero-first, decoded-nil, decoded-cons, on-line-nil, on-line-cons}
use Rattle.link.specs.Agreed.{Agreed, agreed, most_decoded}
use Rattle.link.specs.Receiver.{ReceiverEnd, last_block, is_plain, work, aside, steps_1_to_4}
use Rattle.link.specs.Runs.{received, packet_in}
use Rattle.link.specs.Demands.{frame_began_ff, AnyBlocks}
use Rattle.link.proofs.Cobs.{cobs_receive, cobs_received, in-cobs}
use Rattle.link.proofs.ReceiverBounds.{Ready, fit-work, receive-ready}
use Rattle.link.proofs.Whole.{ready_of}
use Rattle.link.proofs.AsCobs.{as-cobs}
use Rattle.link.proofs.Stays.{flag-begins}
use Rattle.link.proofs.Follow.{Ahead, Follows, Moved, follows-back, frame-long, code-opens, code-zeros, data-last, data-more, reports, starts}
use Rattle.link.proofs.Lock.{passes, follows-at}
use Rattle.link.proofs.Agreed.{sound-check}

pub received-append : (e : ReceiverEnd) (xs ys : List ℕ) → cobs_received e (xs ++ ys) ≡ cobs_received (cobs_received e xs) ys
unfolding cobs_received
received-append e [] ys = refl
received-append e (x ∷ xs) ys = received-append (cobs_receive e x).after xs ys

-- ---- what stands at a place of D

module _ (d : List ℕ) (pos : ℕ) where
  long : (xs ys : List ℕ) → drop pos d ≡ xs ++ ys → length d - pos ≡ length xs + length ys
  long xs ys e = sym (length-drop pos d) ∙ (ap length e ∙ length-append xs ys)

  behind : (xs ys : List ℕ) → drop pos d ≡ xs ++ ys → drop (pos + length xs) d ≡ ys
  behind xs ys e = sym (drop-drop (length xs) pos d) ∙ (ap (drop (length xs)) e ∙ drop-append_seam xs ys)

  there : (l : List ℕ) (i : ℕ) → drop pos d ≡ l → get_or d (pos + i) 0 ≡ get_or l i 0
  there l i e = sym (get_or-drop pos d i 0) ∙ ap (λ (k : List ℕ). get_or k i 0) e

zeros-first : (z i : ℕ) (ys : List ℕ) → i < z → get_or (replicate z 0 ++ ys) i 0 ≡ 0
zeros-first zero i ys h = absurd (omega arith)
zeros-first (suc z) zero ys h = refl
zeros-first (suc z) (suc i) ys h = zeros-first z i ys (omega arith)

-- ---- along D

module _ (g : Agreed) (d : List ℕ) (depth : length d ≤ most_decoded g) where
  -- the receiver, ready and in step
  record At (pos n z : ℕ) (e : ReceiverEnd) : Type 0 where
    ready : Ready g e
    follows : Follows d pos n z (work e)

  sent : (pos n z : ℕ) (e : ReceiverEnd) (x : ℕ) → Ready g e → (x ≡ 0 → ⊥) → Moved d pos n z (work e) (steps_1_to_4 g (aside e) (work e) x) → At pos n z (cobs_receive e (to_line x)).after
  sent pos n z e x r nonzero m =
      record {
        ready = receive-ready g e (to_line x) r;
        follows = rw (passes g e r x nonzero) (follows-back d pos n z e _ m.keeps.turn-is m.follows);
      }

  -- the data octets of a block, and its zeros with the last
  takes : (x : ℕ) (xs : List ℕ) (pos z : ℕ) (ys : List ℕ) (e : ReceiverEnd) → (Memᴰ 0 (x ∷ xs) → ⊥) → drop pos d ≡ (x ∷ xs) ++ (replicate z 0 ++ ys)
      → At pos (length (x ∷ xs)) z e → At (pos + (length (x ∷ xs) + z)) 0 0 (cobs_received e (map to_line (x ∷ xs)))
  unfolding cobs_received
  takes x [] pos z ys e f at a =
      let size = long d pos (x ∷ []) (replicate z 0 ++ ys) at in
      let total : length (replicate z 0 ++ ys) ≡ z + length ys = length-append (replicate z 0) ys ∙ ap (λ (k : ℕ). k + length ys) (length-replicate z 0) in
      let is : get_or d pos 0 ≡ x = ap (λ (i : ℕ). get_or d i 0) (omega arith) ∙ there d pos _ 0 at in
      sent _ 0 0 e x a.ready (λ q. f (Memᴰ.head (sym q)))
      (subst (λ (y : ℕ). Moved d (pos + (1 + z)) 0 0 (work e) (steps_1_to_4 g (aside e) (work e) y)) is
      (data-last g d depth pos (aside e) (work e) (fit-work g e a.ready) 1 z a.follows (omega arith) (omega (arith, size, total)) refl
      (λ i k. ap (λ (j : ℕ). get_or d j 0) (omega arith) ∙ (there d pos _ (suc i) at ∙ zeros-first z i ys k))))
  takes x (y ∷ xs) pos z ys e f at a =
      let size = long d pos (x ∷ y ∷ xs) (replicate z 0 ++ ys) at in
      let total : length (replicate z 0 ++ ys) ≡ z + length ys = length-append (replicate z 0) ys ∙ ap (λ (k : ℕ). k + length ys) (length-replicate z 0) in
      let is : get_or d pos 0 ≡ x = ap (λ (i : ℕ). get_or d i 0) (omega arith) ∙ there d pos _ 0 at in
      let n = length (x ∷ y ∷ xs) in
      let b : At (pos + 1) (length (y ∷ xs)) z (cobs_receive e (to_line x)).after =
      sent _ _ z e x a.ready (λ q. f (Memᴰ.head (sym q)))
      (subst (λ (k : ℕ). Moved d (pos + 1) k z (work e) (steps_1_to_4 g (aside e) (work e) x)) (omega arith)
      (subst (λ (k : ℕ). Moved d (pos + 1) (n - 1) z (work e) (steps_1_to_4 g (aside e) (work e) k)) is
      (data-more g d depth pos (aside e) (work e) (fit-work g e a.ready) n z a.follows (omega arith) (omega (arith, size, total)) (λ q. omega arith)))) in
      let c = takes y xs (pos + 1) z ys (cobs_receive e (to_line x)).after (λ m. f (Memᴰ.tail m)) (behind d pos (x ∷ []) _ at) b in
      subst (λ (k : ℕ). At k 0 0 (cobs_received (cobs_receive e (to_line x)).after (map to_line (y ∷ xs)))) (omega arith) c

  -- a block: D0 is not the last, since D ends in a zero
  module _ (ends : get_or d (length d - 1) 0 ≡ 0) where
    ahead : (c n z pos : ℕ) (xs ys : List ℕ) → Row g.zxe c n z → n ≡ length xs → 0 < n → (Memᴰ 0 xs → ⊥) → drop pos d ≡ xs ++ (replicate z 0 ++ ys)
        → Ahead (last_block c) (n + z) (length d - pos)
    ahead c n z pos xs ys row size more f at =
        branch (λ b. Ahead b (n + z) (length d - pos)) (eqb c 0xD0)
        (λ e.
        let none : z ≡ 0 = (numbers row).full-zeros (eqb-true c 0xD0 e) in
        let all = long d pos xs (replicate z 0 ++ ys) at in
        let rest : length (replicate z 0 ++ ys) ≡ z + length ys = length-append (replicate z 0) ys ∙ ap (λ (k : ℕ). k + length ys) (length-replicate z 0) in
        decide (eqb (length ys) 0)
        (λ k.
        let empty = eqb-true (length ys) 0 k in
        absurd
        (nonzero-first xs (replicate z 0 ++ ys) (n - 1) f (omega arith)
        (sym (there d pos _ (n - 1) at) ∙ (ap (λ (i : ℕ). get_or d i 0) (omega arith) ∙ ends))))
        (λ k. let more-left = eqb-false (length ys) 0 k in omega arith))
        (λ _. tt)

    block : (c : ℕ) (xs : List ℕ) (z pos : ℕ) (ys : List ℕ) (e : ReceiverEnd) → Row g.zxe c (length xs) z → (Memᴰ 0 xs → ⊥) → pos ≤ length d
        → drop pos d ≡ xs ++ (replicate z 0 ++ ys) → At pos 0 0 e → At (pos + (length xs + z)) 0 0 (cobs_received e (to_line c ∷ map to_line xs))
    unfolding cobs_received
    block c [] z pos ys e row f within at a =
        let size = long d pos (replicate z 0) ys at in
        subst (λ (k : ℕ). At k 0 0 (cobs_receive e (to_line c)).after) (omega arith)
        (sent (pos + z) 0 0 e c a.ready (λ q. omega (arith, (numbers row).code-some))
        (code-zeros g d depth pos (aside e) (work e) (fit-work g e a.ready) a.follows c 0 z row refl (omega (arith, size, length-replicate {A = ℕ} z 0))
        (λ i k. there d pos _ i at ∙ zeros-first z i ys k)))
    block c (x ∷ xs) z pos ys e row f within at a =
        takes x xs pos z ys (cobs_receive e (to_line c)).after f at
        (sent pos (length (x ∷ xs)) z e c a.ready (λ q. omega (arith, (numbers row).code-some))
        (code-opens g d depth pos (aside e) (work e) (fit-work g e a.ready) a.follows c (length (x ∷ xs)) z row (λ q. omega arith)
        (ahead c (length (x ∷ xs)) z pos (x ∷ xs) ys row refl (omega arith) f at)))

    -- all blocks
    all : (bs : List Block) (pos : ℕ) (e : ReceiverEnd) → AllAllowed g.zxe bs → pos ≤ length d → drop pos d ≡ decoded_octets bs → At pos 0 0 e
        → At (length d) 0 0 (cobs_received e (line_octets bs))
    unfolding cobs_received
    all [] pos e ok within at a =
        let none-left : length d - pos ≡ 0 = sym (length-drop pos d) ∙ (ap length at ∙ ap length decoded-nil) in
        rw on-line-nil (subst (λ (k : ℕ). At k 0 0 e) (omega arith) a)
    all (b ∷ bs) pos e ok within at a =
        let xs = b.data_octets in
        let z = zeros_after b in
        let here = ok b (Memᴰ.head refl) in
        let row = read-row g.zxe b.code (length xs) z here.row in
        let next : drop pos d ≡ xs ++ (replicate z 0 ++ decoded_octets bs) = at ∙ (decoded-cons b bs ∙ append_assoc xs (replicate z 0) (decoded_octets bs)) in
        let size = long d pos (xs ++ replicate z 0) (decoded_octets bs) (at ∙ decoded-cons b bs) in
        let part : length (xs ++ replicate z 0) ≡ length xs + z = length-append xs (replicate z 0) ∙ ap (λ (k : ℕ). length xs + k) (length-replicate z 0) in
        let after : drop (pos + (length xs + z)) d ≡ decoded_octets bs =
        ap (λ (k : ℕ). drop (pos + k) d) (sym part) ∙ behind d pos (xs ++ replicate z 0) (decoded_octets bs) (at ∙ decoded-cons b bs) in
        let c = block b.code xs z pos (decoded_octets bs) e row here.nonzero within next a in
        subst (λ (l : List ℕ). At (length d) 0 0 (cobs_received e l)) (sym (on-line-cons b bs))
        (subst (At (length d) 0 0) (sym (received-append e (to_line b.code ∷ map to_line xs) (line_octets bs)))
        (all bs (pos + (length xs + z)) (cobs_received e (to_line b.code ∷ map to_line xs)) (λ x m. ok x (Memᴰ.tail m)) (omega arith) after c))

-- no block begins FF, and no octet of one is a flag
all-no-flag : (zs rest : List ℕ) → frame_began_ff false rest ≡ false → frame_began_ff false (map to_line zs ++ rest) ≡ false
all-no-flag [] rest h = h
all-no-flag (x ∷ zs) rest h = rw (ne_eqb (to_line x) flag (no_flag x)) (all-no-flag zs rest h)

none-later : (bs : List Block) → frame_began_ff false (line_octets bs) ≡ false
none-later [] = rw on-line-nil
none-later (b ∷ bs) = rw (on-line-cons b bs) (all-no-flag (b.code ∷ b.data_octets) (line_octets bs) (none-later bs))

never-FF : (zxe : Bool) (bs : List Block) → AllAllowed zxe bs → frame_began_ff true (line_octets bs) ≡ false
never-FF zxe [] ok = rw on-line-nil
never-FF zxe (b ∷ bs) ok =
    let below = (numbers (read-row zxe b.code _ _ (ok b (Memᴰ.head refl)).row)).code_below in
    let other : to_line b.code ≡ 0xFF → ⊥ = λ q. omega (arith, to-other b.code 0xFF q (λ k. omega arith), below) in
    rw (on-line-cons b bs, ne_eqb (to_line b.code) 0xFF other, ne_eqb (to_line b.code) flag (no_flag b.code))
    (all-no-flag b.data_octets (line_octets bs) (none-later bs))

pub any-blocks : AnyBlocks
any-blocks e r reads out bs p ok is big small =
    let t = e.state.settings in
    let g = agreed t in
    let f = frame g.check p in
    let d = with_phantom f in
    let size : length d ≡ length f + 1 = length-append f (0 ∷ []) in
    let z : Ready g e = ready_of e r reads in
    let depth : length d ≤ most_decoded g = omega (arith, frame-long g p) in
    let ends : get_or d (length d - 1) 0 ≡ 0 = ap (λ (i : ℕ). get_or d i 0) (omega arith) ∙ get_or_at f 0 [] 0 (length f) refl in
    let a =
    all g d depth ends bs 0 e ok (omega arith) (sym is) (record { ready = z; follows = starts g e z d out (omega arith) }) in
    let c = as-cobs (line_octets bs) e r reads (λ _. ap (λ (k : Bool). frame_began_ff (not k) (line_octets bs)) out ∙ never-FF g.zxe bs ok) in
    let p₁ : is_plain (received e (line_octets bs)).state.mode ≡ false = ap is_plain c.mode ∙ reads in
    ap packet_in (in-cobs (received e (line_octets bs)) flag c.ready p₁ (flag-begins (received e (line_octets bs)).state))
    ∙ (ap (λ (f : ReceiverEnd). packet_in (cobs_receive f flag)) c.after
    ∙ reports g (cobs_received e (line_octets bs)) a.ready p (sound-check t) big (follows-at d _ size refl refl a.follows))
