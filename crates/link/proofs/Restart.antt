-- A restart: a frame that begins FF lets go of what is held, so that nothing from before it is joined to anything after it.
use mathlib.Core.Path.{◌≡◌, refl, sym, ap, subst, ◌∙◌}
use mathlib.Core.Bool.{Bool, true, false, cond, not, ◌&&◌, and-false}
use mathlib.Core.List.{List, [], ◌∷◌, map, Memᴰ}
use mathlib.Core.Logic.{⊎_elim}
use Prim.Native.Nat.{ℕ, ◌+◌, ◌≤◌}
use native.Mathlib.Omega.{arith}
use borrow.Author.Tests.{eqb-true, eqb-false, le-ltb}
use lib.Dec.{eqb}
use lib.ListN.{take}
use Rattle.std.specs.Prelude.{None}
use Rattle.cobs.specs.CodeBlocks.{flag, from_line}
use Rattle.cobs.proofs.Tests.{decide}
use Rattle.cobs.proofs.Exchange.{from-line}
use Rattle.link.specs.Agreed.{Agreed, agreed, largest_frame}
use Rattle.link.specs.Answers.{quiet, held, refused}
use Rattle.link.specs.Receiver.{Held, holds, no_block, Mode, kept_off, cobs, plain, Receiver, ReceiverEnd, Receive, fresh, escape_over, is_off, is_plain, with_mode, with_decoded, in_frame, write, in_bounds, step4_remember, step1_restart, step1_resume_held, step1_d1, step1_first_octet, steps_1_to_4, step5_end, at_flag, plain_data, begin_plain, work, aside, put_back, flagged, quietly, receive}
use Rattle.link.specs.ReceiverParts.{ReceiverReady}
use Rattle.link.specs.Runs.{receives, received}
use Rattle.link.specs.EachCall.{HeldThen, NotHeldThen}
use Rattle.link.specs.Demands.{Alike, AreasLongEnough, ReportAndPacket, report_and_packet, NoHeldReport, cleared, OutOfCobsFrame, Restart}
use Rattle.link.proofs.Tests.{if-so}
use Rattle.link.proofs.Agreed.{limit-at-least}
use Rattle.link.proofs.Cobs.{begins, in-cobs, not-escaped, over-same, off-is, cobs-is}
use Rattle.link.proofs.ReceiverBounds.{counts, Ready, by_end, receive-flag, receive_other, first-octet}
use Rattle.link.proofs.ReceiverCases.{remembered}
use Rattle.link.proofs.Whole.{ready_of, passes}
use Rattle.link.proofs.Stays.{flag-begins}
use Rattle.link.proofs.ReadOn.{skips, found, first-stays, second-stays}
use Rattle.link.proofs.Resumed.{D1-does}
use Rattle.link.proofs.AreasAside.{areas-aside}
use Rattle.link.proofs.EachCall.{receives-so}

-- ---- a refused frame, up to and with its flag

skips-all : (rest : List ℕ) (e : ReceiverEnd) → ReceiverReady e → (e.state.refusal ≡ 0 → ⊥) → (Memᴰ flag rest → ⊥) → received e rest ≡ e
unfolding received
skips-all [] e a some none = refl
skips-all (x ∷ rest) e a some none =
    ap (λ (h : Receive). received h.after rest) (skips e x a some (λ q. none (Memᴰ.head (sym q))))
    ∙ skips-all rest e a some (λ m. none (Memᴰ.tail m))

refused-at : (rest : List ℕ) (e : ReceiverEnd) → ReceiverReady e → is_plain e.state.mode ≡ false → e.state.framed ≡ true → (e.state.refusal ≡ 0 → ⊥)
    → (Memᴰ flag rest → ⊥) → receive (received e rest) flag ≡ flagged e (step5_end (refused e.state.refusal) e.state)
unfolding at_flag
refused-at rest e a p f some none =
    ap (λ (d : ReceiverEnd). receive d flag) (skips-all rest e a some none)
    ∙ (in-cobs e flag a p (flag-begins e.state)
    ∙ (receive-flag _ e (ready_of e a p) ∙ ap (flagged e) (if-so _ _ _ f ∙ remembered _ e.state (work e).area some)))

-- ---- the first octet of a frame

module _ (e : ReceiverEnd) (at : OutOfCobsFrame e) where
  abbrev s : Receiver
  s = e.state

  abbrev g : Agreed
  g = agreed s.settings

  z : Ready g e
  z = ready_of e at.ready at.cobs

  -- an octet that only the state is changed by
  abbrev pub becomes : Receiver → ReceiverEnd
  becomes r = record { state = r; first = e.first; second = e.second }

  put-back-state : (r : Receiver) → put_back e (record { state = r; area = (work e).area }) ≡ becomes r
  put-back-state r = rw (first-stays s.turn e.first e.second, second-stays s.turn e.first e.second)

  -- FF, with plain reading off
  FF-is : s.mode ≡ kept_off → receive e 0xFF ≡ record { report = quiet; after = becomes (step4_remember 5 false (cleared e).state) }
  unfolding step1_first_octet
  FF-is off =
      let o = z.bounds.out at.out in
      in-cobs e 0xFF at.ready at.cobs (ap (λ (m : Mode). not (is_off m) && not s.framed && true) off)
      ∙ receive_other g e z 0xFF (λ q. omega arith)
      ∙ ap (λ (d : ReceiverEnd). record { report = quiet; after = d })
      (ap (put_back e) (ap (steps_1_to_4 g (aside e) (work e)) (from-line 0xFF (λ q. omega arith)) ∙ first-octet g (aside e) (work e) 0xFF z.bounds at.out)
      ∙ (put-back-state (step1_restart s) ∙ rw (o.decoded-0, o.resumed-0)))

  -- and with it on
  FF-begins : s.mode ≡ cobs
      → receive e 0xFF
      ≡ quietly e (record { state = with_mode plain (in_frame no_block false 0 (with_decoded 1 (cleared e).state)); area = write (work e).area 0 (0xFF ∷ []) })
  unfolding begin_plain plain_data
  FF-begins on =
      let o = z.bounds.out at.out in
      let room : 0 + 1 ≤ largest_frame g = omega (arith, limit-at-least g at.ready.valid) in
      begins e 0xFF at.ready at.cobs (rw (on, at.out))
      ∙ ap (quietly e) (rw (o.decoded-0, o.resumed-0, o.left-0, o.zeros-0, le-ltb _ _ room))

  -- D1 that the area is not changed by
  pub D1-becomes : (r : Receiver) → step1_d1 g (aside e) s ≡ r → receive e 0xD1 ≡ record { report = quiet; after = becomes r }
  D1-becomes r is =
      in-cobs e 0xD1 at.ready at.cobs (and-false (not (is_off s.mode) && not s.framed))
      ∙ D1-does g e z at.out 0xD1 (λ q. omega arith) (from-line 0xD1 (λ q. omega arith))
      ∙ ap (λ (d : ReceiverEnd). record { report = quiet; after = d })
      (ap (λ (t : Receiver). put_back e (record { state = t; area = (work e).area })) is ∙ put-back-state r)

  -- D1 with nothing held
  D1-none : g.pre ≡ true → s.held ≡ None → receive e 0xD1 ≡ record { report = quiet; after = becomes (step4_remember 8 true s) }
  unfolding step1_d1 step1_resume_held
  D1-none pre none = D1-becomes (step4_remember 8 true s) (if-so _ _ _ pre ∙ ap (λ (k : Held). step1_resume_held g (aside e) k s) none)

  -- so refused, to its flag
  pub refused-first : (x n : ℕ) (r : Receiver) → receive e x ≡ record { report = quiet; after = becomes r } → is_plain r.mode ≡ false → r.framed ≡ true → r.refusal ≡ n → (n ≡ 0 → ⊥)
      → (rest : List ℕ) → (Memᴰ flag rest → ⊥)
      → receive (received e (x ∷ rest)) flag ≡ flagged (becomes r) (step5_end (refused n) r)
  unfolding received
  refused-first x n r is p f k some rest none =
      let ready : ReceiverReady (becomes r) = subst (λ (h : Receive). ReceiverReady h.after) is (passes e x at.ready).ready in
      ap (λ (h : Receive). receive (received h.after rest) flag) is
      ∙ (refused-at rest (becomes r) ready p f (λ q. some (sym k ∙ q)) none ∙ ap (λ (m : ℕ). flagged (becomes r) (step5_end (refused m) r)) k)

  -- the receiver out of the frame again: an escape was not open
  pub over-cleared : (n : ℕ) (resumed : Bool) → flagged (becomes (step4_remember n resumed (cleared e).state)) (step5_end (refused n) (step4_remember n resumed (cleared e).state)) ≡ record { report = refused n; after = cleared e }
  over-cleared n resumed =
      let told : Receiver → Receive = λ r. record { report = refused n; after = becomes r } in
      let out : Mode → Receiver = λ m. fresh s.settings m s.map s.turn None in
      let same : told (out (escape_over s.mode)) ≡ told (out s.mode) = ap (λ (m : Mode). told (out m)) (over-same s.mode (not-escaped s.mode at.cobs)) in
      by_end (λ (r : Receiver). told r ≡ told (out s.mode)) (step4_remember n resumed (cleared e).state) (λ _. same) (λ _. same)

  restart-frame : s.mode ≡ kept_off → (rest : List ℕ) → (Memᴰ flag rest → ⊥) → receive (received e (0xFF ∷ rest)) flag ≡ record { report = refused 5; after = cleared e }
  restart-frame off rest none = refused-first 0xFF 5 _ (FF-is off) at.cobs refl refl (λ q. omega arith) rest none ∙ over-cleared 5 false

  none-to-resume : g.pre ≡ true → s.held ≡ None → (rest : List ℕ) → (Memᴰ flag rest → ⊥)
      → (receive (received e (0xD1 ∷ rest)) flag).report ≡ refused 8
  none-to-resume pre held-is rest none =
      ap (λ (h : Receive). h.report) (refused-first 0xD1 8 _ (D1-none pre held-is) at.cobs refl refl (λ q. omega arith) rest none)

-- ---- what is reported after it

-- two receivers that came to the same frame, refused or plain
module _ (e f : ReceiverEnd) (at : OutOfCobsFrame e) (b : ReceiverReady f) (same : f.state ≡ (cleared e).state) where
  abbrev f₁ : ReceiverEnd
  f₁ = record { state = (cleared e).state; first = f.first; second = f.second }

  is : f ≡ f₁
  is = ap (λ (r : Receiver). record { state = r; first = f.first; second = f.second }) same

  at₁ : OutOfCobsFrame f₁
  at₁ = record { ready = subst ReceiverReady is b; cobs = at.cobs; out = refl }

  -- what is alike after the FF reports alike
  go_on : (d c : ReceiverEnd) → receive e 0xFF ≡ record { report = quiet; after = d } → receive f₁ 0xFF ≡ record { report = quiet; after = c } → Alike d c
      → (line : List ℕ) → map report_and_packet (receives e (0xFF ∷ line)) ≡ map report_and_packet (receives f (0xFF ∷ line))
  unfolding receives
  go_on d c h k alike line =
      let long : (u v : ReceiverEnd) → OutOfCobsFrame u → receive u 0xFF ≡ record { report = quiet; after = v } → AreasLongEnough v =
      (λ u v t q. let r = subst (λ (i : Receive). ReceiverReady i.after) q (passes u 0xFF t.ready).ready in record { first = r.first; second = r.second }) in
      rw is
      (rw (h, k)
      (ap (λ (hs : List ReportAndPacket). report_and_packet (record { report = quiet; after = d }) ∷ hs)
      (areas-aside d c (long e d at h) (long f₁ c at₁ k) alike line)))

  forgets-in : (line : List ℕ) → map report_and_packet (receives e (0xFF ∷ line)) ≡ map report_and_packet (receives f (0xFF ∷ line))
  forgets-in line =
      let m = e.state.mode in
      decide (is_off m)
      (λ o.
      let off = off-is m o in
      go_on _ _ (FF-is e at off) (FF-is f₁ at₁ off) (record { state = refl; decoded = refl; held = refl }) line)
      (λ o.
      let on = cobs-is m at.cobs o in
      go_on _ _ (FF-begins e at on) (FF-begins f₁ at₁ on) (record { state = refl; decoded = one; held = refl }) line)
    where
      one : take 1 (work (put_back f₁ (record { state = e.state; area = write (work f₁).area 0 (0xFF ∷ []) }))).area ≡ take 1 (work (put_back e (record { state = e.state; area = write (work e).area 0 (0xFF ∷ []) }))).area
      one = ap (take 1) (found e.state.turn _ _ _) ∙ sym (ap (take 1) (found e.state.turn _ _ _))

-- nothing held stays so, until a Held report
module _ (e : ReceiverEnd) (a : ReceiverReady e) (none : e.state.held ≡ None) where
  still-none : (x : ℕ) → ((n : ℕ) (replaced : Bool) → (receive e x).report ≡ held n replaced → ⊥) → (receive e x).after.state.held ≡ None
  still-none x unheld =
      decide (eqb x flag)
      (λ q.
      let is = eqb-true x flag q in
      ap (λ (y : ℕ). (receive e y).after.state.held) is
      ∙ decide e.state.framed
      (λ f.
      ⊎_elim
      (λ (t : HeldThen e (receive e flag)). absurd (unheld _ _ (ap (λ (y : ℕ). (receive e y).report) is ∙ t.0)))
      (λ t. ap (λ (r : Receiver). r.held) t.state ∙ given t)
      (receives-so.frame e a f).report)
      (λ f. ap (λ (h : Receive). h.after.state.held) (receives-so.empty e a f) ∙ none))
      (λ q. (receives-so.takes_in e a x (eqb-false x flag q) (λ _ _ _ _. none)).held ∙ either (not (is_plain e.state.mode) && not e.state.framed && eqb (from_line x) 0xFF))
    where
      either : (b : Bool) → cond b None e.state.held ≡ None
      either true = refl
      either false = none

      given : (t : NotHeldThen e.state (receive e flag)) → t.fragment ≡ None
      given t = decide e.state.resumed t.resumed (λ k. t.other k ∙ none)

none-held : (line : List ℕ) (e : ReceiverEnd) → ReceiverReady e → e.state.held ≡ None → NoHeldReport (receives e line) → (received e line).state.held ≡ None
unfolding receives received
none-held [] e a none unheld = none
none-held (x ∷ xs) e a none unheld =
    none-held xs (receive e x).after (passes e x a).ready
    (still-none e a none x (λ n replaced q. unheld (receive e x) n replaced (Memᴰ.head refl) q))
    (λ h n replaced m q. unheld h n replaced (Memᴰ.tail m) q)

until-held : (e : ReceiverEnd) → OutOfCobsFrame e → (line : List ℕ) → NoHeldReport (receives e (0xFF ∷ line))
    → (received e (0xFF ∷ line)).state.held ≡ None
unfolding receives received
until-held e at line unheld =
    let m = e.state.mode in
    none-held line (receive e 0xFF).after (passes e 0xFF at.ready).ready
    (decide (is_off m) (λ o. ap (λ (h : Receive). h.after.state.held) (FF-is e at (off-is m o)))
    (λ o. ap (λ (h : Receive). h.after.state.held) (FF-begins e at (cobs-is m at.cobs o))))
    (λ h n replaced i q. unheld h n replaced (Memᴰ.tail i) q)

five-and-held : (r : Receiver) (n k : ℕ) → r.refusal ≡ 5 → r.held ≡ holds n k → in_bounds (agreed r.settings) r ≡ false
five-and-held r n k five some =
    decide (in_bounds (agreed r.settings) r)
    (λ b. absurd (let none : None ≡ holds n k = sym ((counts _ r b).restart five) ∙ some in let z : ◌≡◌ {A = ℕ} 0 1 = cc in omega arith))
    (λ b. b)

pub restart : Restart
restart =
    record {
      at_once = FF-is;
      at_once_on = FF-begins;
      frame = restart-frame;
      forgets = forgets-in;
      until_held = until-held;
      none_to_resume = none-to-resume;
      bounds = five-and-held;
    }
