-- Plain frames, one by one: what each comes to, by its octets without their stuffing.
use mathlib.Core.Path.{◌≡◌, refl, sym, ap, ap₂, subst, ◌∙◌}
use mathlib.Core.Bool.{Bool, true, false, cond, not, ◌||◌}
use mathlib.Core.List.{List, [], ◌∷◌, ◌++◌, map, append_assoc, append-nil, Memᴰ}
use mathlib.Core.Option.{some}
use Prim.Native.Nat.{ℕ, ◌+◌, ◌-◌, ◌≤◌, ◌<◌}
use native.Mathlib.Omega.{arith}
use borrow.Author.Tests.{ltb-true, ltb-false, lt-ltb, le-ltb, eq-eqb, ne_eqb}
use lib.Dec.{ltb}
use lib.ListN.{length, take, replicate, length-append}
use lib.Seq.{take-take, length-take-le}
use Rattle.fcs.specs.CheckSequence.{good}
use Rattle.cobs.specs.CodeBlocks.{flag}
use Rattle.cobs.proofs.Tests.{decide}
use Rattle.plain.specs.declared.Taken.{Taken}
use Rattle.plain.specs.declared.Taken.TheVariants.{Removed, Escape, Data}
use Rattle.plain.specs.Maps.{removed}
use Rattle.plain.specs.Stuffing.{taken}
use Rattle.plain.specs.ReadBack.{unstuffed, kept}
use Rattle.plain.proofs.Laws.{unstuffed-nil, unstuffed-cons, taken-removed, taken-kept, kept-nil, kept-removed, kept-other}
use Rattle.link.specs.Agreed.{Agreed, agreed, least_frame, largest_frame, most_decoded}
use Rattle.link.specs.Answers.{Answer, quiet, packet, refused}
use Rattle.link.specs.Receiver.{no_block, Mode, plain, escape_open, Receiver, Working, ReceiverEnd, Receive, Ended, fresh, escape_over, is_plain, is_escaped, step4_refuse, step3_write, step5_end, step5_without_phantom, frame_over, let_go, with_mode, with_decoded, kept_off, cobs, in_plain_frame, plain_data, plain_taken, plain_octet, plain_flag, at_plain_flag, work, put_back, flagged, quietly, area_of, receive}
use Rattle.link.specs.ReceiverParts.{ReceiverReady}
use Rattle.link.specs.Runs.{receives, received, stands_for}
use Rattle.link.specs.Demands.{ReportAndPacket, report_and_packet}
use Rattle.link.specs.PlainReading.{quiet_answer, told, refusal, frame_report, is_empty, FrameByFrame}
use Rattle.link.proofs.Tests.{if-so, if-not, true-false}
use Rattle.link.proofs.Write.{take-write}
use Rattle.link.proofs.Cobs.{in-plain}
use Rattle.link.proofs.ReceiverBounds.{counts, out-fresh}
use Rattle.link.proofs.PlainCases.{plain-bounds}
use Rattle.link.proofs.Whole.{passes, fit-plain}
use Rattle.link.proofs.ReadOn.{skips, found, put-back-same}
use Rattle.link.proofs.EachCall.{receives-so}

-- the mode, by whether an escape is open
abbrev mode_by : Bool → Mode
mode_by b = cond b escape_open plain

by_mode : (b : Bool) (m : Mode) → m ≡ mode_by b → (is_plain m ≡ true) × (is_escaped m ≡ b) × (escape_over m ≡ plain)
by_mode true m e = (ap is_plain e, ap is_escaped e, ap escape_over e)
by_mode false m e = (ap is_plain e, ap is_escaped e, ap escape_over e)

pub mode-by : (m : Mode) → is_plain m ≡ true → is_escaped m ≡ false → m ≡ plain
mode-by kept_off p q = true-false (sym p)
mode-by cobs p q = true-false (sym p)
mode-by plain p q = refl
mode-by escape_open p q = true-false q

-- out of a frame, all else is fresh
out-is : (r : Receiver) → r.decoded ≡ 0 → r.left ≡ 0 → r.zeros ≡ 0 → r.last ≡ no_block → r.resumed ≡ false → r.refusal ≡ 0 → r.framed ≡ false → r.mode ≡ plain
    → r ≡ fresh r.settings plain r.map r.turn r.held
out-is r d l z b m n f i = all
  where
    all : with_mode r.mode r ≡ fresh r.settings plain r.map r.turn r.held
    all = rw (d, l, z, b, m, n, f, i)

module _ (s : Receiver) where
  abbrev g : Agreed
  g = agreed s.settings

  -- out of the frame again, in the end
  abbrev over : Receiver
  over = fresh s.settings plain s.map s.turn s.held

  -- what stays through a frame
  record Same (r : Receiver) : Type 0 where
    settings-is : r.settings ≡ s.settings
    map-is : r.map ≡ s.map
    turn-is : r.turn ≡ s.turn
    held-is : r.held ≡ s.held
    resumed-is : r.resumed ≡ false

  -- the octets ds are decoded, and an escape is open or not; f: the frame has begun
  record At (f : Bool) (ds : List ℕ) (b : Bool) (e : ReceiverEnd) : Type 0 where
    ready : ReceiverReady e
    same : Same e.state
    mode-is : e.state.mode ≡ mode_by b
    clean : e.state.refusal ≡ 0
    framed-is : e.state.framed ≡ f
    count : e.state.decoded ≡ length ds
    there : take (length ds) (work e).area ≡ ds
    fits : length ds ≤ largest_frame g

  -- more were to be decoded than the largest frame has
  record Full (e : ReceiverEnd) : Type 0 where
    ready : ReceiverReady e
    same : Same e.state
    reads : is_plain e.state.mode ≡ true
    over-is : escape_over e.state.mode ≡ plain
    ten : e.state.refusal ≡ 10

  -- ---- the flag

  -- what is told of the octets us, with an escape open behind them or not
  abbrev tells : List ℕ → Bool → ReportAndPacket
  tells us b = frame_report g s.turn (record { octets = us; escaped = b })

  record Ends (t : ReportAndPacket) (h : Receive) : Type 0 where
    report-is : report_and_packet h ≡ t
    state-is : h.after.state ≡ over

  module _ (e : ReceiverEnd) (k : Same e.state) (m : escape_over e.state.mode ≡ plain) where
    end-state : frame_over (cond e.state.resumed (let_go e.state) e.state) ≡ over
    end-state =
        ap (λ (b : Bool). frame_over (cond b (let_go e.state) e.state)) k.resumed-is
        ∙ rw (k.settings-is, k.map-is, k.turn-is, k.held-is, m)

    -- any report that stands for no packet
    ends-refused : (n : ℕ) → Ends (refusal n) (flagged e (step5_end (refused n) e.state))
    ends-refused n = record { report-is = refl; state-is = end-state }

    ends-packet : (n : ℕ) (us : List ℕ) → n ≤ length us → take (length us) (work e).area ≡ us → Ends (told s.turn (take n us)) (flagged e (step5_end (packet e.state.turn n) e.state))
    ends-packet n us h there =
        let long : length (take n us) ≡ n = length-take-le n us h in
        let is : take n (area_of e.state.turn e) ≡ take n us = sym (take-take n (length us) (work e).area h) ∙ ap (take n) there in
        record {
          report-is =
              ap₂ (λ (a : Answer) (o : List ℕ). record { report = a; packet = some o }) (ap₂ packet k.turn-is (sym long)) is;
          state-is = end-state;
        }

  full-flag : (e : ReceiverEnd) → Full e → Ends (refusal 10) (receive e flag)
  unfolding at_plain_flag plain_flag
  full-flag e k =
      let some : e.state.refusal ≡ 0 → ⊥ = λ q. omega (arith, k.ten) in
      let framed : e.state.framed ≡ true = decide e.state.framed (λ f. f) (λ f. absurd (some (out-fresh _ e.state (counts _ e.state k.ready.bounds) f).refusal-0)) in
      let is : receive e flag ≡ flagged e (step5_end (refused 10) e.state) =
      in-plain e flag k.ready k.reads
      ∙ ap (flagged e) (if-so _ _ _ framed ∙ (if-so _ _ _ (ap not (ne_eqb _ _ some)) ∙ ap (λ (n : ℕ). step5_end (refused n) e.state) k.ten)) in
      rw is (ends-refused e k.same k.over-is 10)

  -- of no more octets than the largest frame has
  abbrev fewer : List ℕ → Bool → ReportAndPacket
  fewer us b =
      cond b (refusal 18)
      (cond (ltb (length us) (least_frame g)) (refusal 13)
      (cond (good g.check us) (told s.turn (take (length us - g.check.fcs_length) us)) (refusal 14)))

  module _ (ds : List ℕ) (b : Bool) (e : ReceiverEnd) (k : At true ds b e) where
    abbrev r : Receiver
    r = e.state

    -- the flag's steps, in these cases
    abbrev ended : Ended
    ended =
        cond b (step5_end (refused 18) r)
        (cond (ltb (length ds) (least_frame g)) (step5_end (refused 13) r)
        (cond (good g.check (take (length ds) (work e).area)) (step5_end (packet r.turn (length ds - g.check.fcs_length)) r) (step5_end (refused 14) r)))

    flag_is : receive e flag ≡ flagged e ended
    unfolding at_plain_flag plain_flag step5_without_phantom
    flag_is =
        let m = by_mode b r.mode k.mode-is in
        in-plain e flag k.ready m.0
        ∙ ap (flagged e)
        (if-so _ _ _ k.framed-is
        ∙ (ap (λ (a : Agreed). plain_flag a r (work e).area) (ap agreed k.same.settings-is)
        ∙ (if-not _ _ _ (ap not (eq-eqb _ _ k.clean))
        ∙ (if-not _ _ _ (le-ltb (largest_frame g) r.decoded (omega (arith, k.count, k.fits)))
        ∙ ap₂ (λ (c : Bool) (n : ℕ). cond c (step5_end (refused 18) r) (step5_without_phantom g r (work e).area n)) m.1 k.count))))

    by_cases : (c short good₁ good₂ : Bool) → good₁ ≡ good₂
        → Ends (cond c (refusal 18) (cond short (refusal 13) (cond good₂ (told s.turn (take (length ds - g.check.fcs_length) ds)) (refusal 14))))
        (flagged e
        (cond c (step5_end (refused 18) r)
        (cond short (step5_end (refused 13) r) (cond good₁ (step5_end (packet r.turn (length ds - g.check.fcs_length)) r) (step5_end (refused 14) r)))))
    by_cases true short good₁ good₂ q = ends-refused e k.same (by_mode b r.mode k.mode-is).2 18
    by_cases false true good₁ good₂ q = ends-refused e k.same (by_mode b r.mode k.mode-is).2 13
    by_cases false false true true q = ends-packet e k.same (by_mode b r.mode k.mode-is).2 (length ds - g.check.fcs_length) ds (omega arith) k.there
    by_cases false false false false q = ends-refused e k.same (by_mode b r.mode k.mode-is).2 14
    by_cases false false true false q = true-false q
    by_cases false false false true q = true-false (sym q)

    at_flag : Ends (tells ds b) (receive e flag)
    at_flag =
        let small : tells ds b ≡ fewer ds b = if-not _ _ _ (le-ltb _ _ k.fits) in
        subst (λ (t : ReportAndPacket). Ends t (receive e flag)) (sym small)
        (subst (Ends (fewer ds b)) (sym flag_is)
        (by_cases b (ltb (length ds) (least_frame g)) (good g.check (take (length ds) (work e).area)) (good g.check ds) (ap (good g.check) k.there)))

  -- ---- an octet that is no flag

  module _ (f : Bool) (ds : List ℕ) (b : Bool) (e : ReceiverEnd) (k : At f ds b e) (x : ℕ) (other : x ≡ flag → ⊥) where
    octet-is : (t : Taken) → taken s.map b x ≡ t → receive e x ≡ quietly e (plain_taken g (work e) t)
    unfolding plain_octet
    octet-is t q =
        let m = by_mode b e.state.mode k.mode-is in
        let says : taken e.state.map (is_escaped e.state.mode) x ≡ t = ap₂ (λ (i : ℕ) (c : Bool). taken i c x) k.same.map-is m.1 ∙ q in
        in-plain e x k.ready m.0
        ∙ (if-not _ _ _ (ne_eqb x flag other)
        ∙ ap (quietly e) (if-not _ _ _ (ap not (eq-eqb _ _ k.clean)) ∙ ap₂ (λ (a : Agreed) (u : Taken). plain_taken a (work e) u) (ap agreed k.same.settings-is) says))

    after-ready : (w : Working) → receive e x ≡ quietly e w → ReceiverReady (put_back e w)
    after-ready w is = subst (λ (h : Receive). ReceiverReady h.after) is (passes e x k.ready).ready

    same_in : (m : Mode) (n : ℕ) → Same (in_plain_frame m (with_decoded n e.state))
    same_in m n =
        record {
          settings-is = k.same.settings-is;
          map-is = k.same.map-is;
          turn-is = k.same.turn-is;
          held-is = k.same.held-is;
          resumed-is = k.same.resumed-is;
        }

    removed-is : taken s.map b x ≡ Removed → receive e x ≡ record { report = quiet; after = e }
    unfolding plain_taken
    removed-is q = octet-is Removed q ∙ ap (λ (d : ReceiverEnd). record { report = quiet; after = d }) (put-back-same e)

    escape-is : taken s.map b x ≡ Escape → At true ds true (receive e x).after
    unfolding plain_taken
    escape-is q =
        let is = octet-is Escape q in
        rw is
        (record {
          ready = after-ready _ is;
          same = same_in escape_open e.state.decoded;
          mode-is = refl;
          clean = refl;
          framed-is = refl;
          count = k.count;
          there = ap (take (length ds)) (found e.state.turn (work e).area e.second e.first) ∙ k.there;
          fits = k.fits;
        })

    data_is : (y : ℕ) → taken s.map b x ≡ Data y → length ds < largest_frame g → At true (ds ++ (y ∷ [])) false (receive e x).after
    unfolding plain_taken plain_data
    data_is y q room =
        let n = e.state.decoded in
        let w : Working = step3_write (y ∷ []) (record { state = in_plain_frame plain e.state; area = (work e).area }) in
        let is : receive e x ≡ quietly e w = octet-is (Data y) q ∙ ap (quietly e) (if-not _ _ _ (le-ltb (largest_frame g) (n + 1) (omega (arith, k.count)))) in
        let size : length (ds ++ (y ∷ [])) ≡ length ds + 1 = length-append ds (y ∷ []) in
        let one-more : length (ds ++ (y ∷ [])) ≡ n + 1 = omega (arith, k.count) in
        let long : most_decoded (agreed e.state.settings) ≤ length (work e).area = (fit-plain e x k.ready (by_mode b e.state.mode k.mode-is).0).long in
        let room-in : n + 1 ≤ length (work e).area = omega (arith, k.count, subst (λ (a : Agreed). most_decoded a ≤ length (work e).area) (ap agreed k.same.settings-is) long) in
        rw is
        (record {
          ready = after-ready _ is;
          same = same_in plain (n + 1);
          mode-is = refl;
          clean = refl;
          framed-is = refl;
          count = omega (arith, k.count);
          there =
              ap (take (length (ds ++ (y ∷ [])))) (found e.state.turn w.area e.second e.first)
              ∙ (ap (λ (i : ℕ). take i w.area) one-more
              ∙ (take-write (work e).area n (y ∷ []) room-in ∙ ap (λ (l : List ℕ). l ++ (y ∷ [])) (ap (λ (i : ℕ). take i (work e).area) k.count ∙ k.there)));
          fits = omega arith;
        })

    full_is : (y : ℕ) → taken s.map b x ≡ Data y → largest_frame g ≤ length ds → Full (receive e x).after
    unfolding plain_taken plain_data
    full_is y q full =
        let n = e.state.decoded in
        let w : Working = step4_refuse 10 (record { state = in_plain_frame plain e.state; area = (work e).area }) in
        let is : receive e x ≡ quietly e w = octet-is (Data y) q ∙ ap (quietly e) (if-so _ _ _ (lt-ltb (largest_frame g) (n + 1) (omega (arith, k.count)))) in
        rw is
        (record {
          ready = after-ready _ is;
          same =
              record {
                settings-is = k.same.settings-is;
                map-is = k.same.map-is;
                turn-is = k.same.turn-is;
                held-is = k.same.held-is;
                resumed-is = k.same.resumed-is;
              };
          reads = refl;
          over-is = refl;
          ten = refl;
        })

  -- ---- to the flag

  full-ends : (xs : List ℕ) (e : ReceiverEnd) → Full e → (Memᴰ flag xs → ⊥) → Ends (refusal 10) (receive (received e xs) flag)
  unfolding received
  full-ends [] e k free = full-flag e k
  full-ends (x ∷ xs) e k free =
      subst (λ (h : Receive). Ends (refusal 10) (receive (received h.after xs) flag)) (sym (skips e x k.ready (λ q. omega (arith, k.ten)) (λ q. free (mathlib.Core.List.Memᴰ.head (sym q)))))
      (full-ends xs e k (λ m. free (mathlib.Core.List.Memᴰ.tail m)))

  -- what comes of a frame of which ds is decoded, from the octets behind
  abbrev comes : Bool → List ℕ → Bool → List ℕ → ReportAndPacket
  comes f ds b xs =
      let u = unstuffed s.map b xs in
      cond (f || not (is_empty (kept s.map xs))) (tells (ds ++ u.octets) u.escaped) quiet_answer

  -- begun by an octet that is not removed
  begun : (f : Bool) (x : ℕ) (xs : List ℕ) (t u : ReportAndPacket) → removed s.map x ≡ false → cond (f || not (is_empty (kept s.map (x ∷ xs)))) t u ≡ t
  begun true x xs t u q = refl
  begun false x xs t u q = rw (kept-other s.map x xs q)

  not-removed : (b : Bool) (x : ℕ) (t : Taken) → taken s.map b x ≡ t → (t ≡ Removed → ⊥) → removed s.map x ≡ false
  not-removed b x t q other = decide (removed s.map x) (λ r. absurd (other (sym q ∙ taken-removed s.map b x r))) (λ r. r)

  is_removed : (b : Bool) (x : ℕ) → taken s.map b x ≡ Removed → removed s.map x ≡ true
  is_removed b x q = decide (removed s.map x) (λ r. r) (λ r. absurd (taken-kept s.map b x r q))

  ends_at : (xs : List ℕ) (f : Bool) (ds : List ℕ) (b : Bool) (e : ReceiverEnd) → At f ds b e → (f ≡ false → (ds ≡ []) × (b ≡ false)) → (Memᴰ flag xs → ⊥)
      → Ends (comes f ds b xs) (receive (received e xs) flag)
  unfolding received
  ends_at [] true ds b e k out free =
      rw (unstuffed-nil s.map b, append-nil ds) (at_flag ds b e k)
  ends_at [] false ds b e k out free =
      rw (kept-nil s.map, receives-so.empty e k.ready k.framed-is) (record { report-is = refl; state-is = still })
    where
      still : e.state ≡ over
      still =
          let o = out-fresh _ e.state (counts _ e.state k.ready.bounds) k.framed-is in
          let m : e.state.mode ≡ plain = k.mode-is ∙ ap mode_by (out refl).1 in
          out-is e.state o.decoded-0 o.left-0 o.zeros-0 o.last-0 o.resumed-0 o.refusal-0 k.framed-is m
          ∙ rw (k.same.settings-is, k.same.map-is, k.same.turn-is, k.same.held-is)
  ends_at (x ∷ xs) f ds b e k out free =
      let other : x ≡ flag → ⊥ = λ q. free (mathlib.Core.List.Memᴰ.head (sym q)) in
      let rest : Memᴰ flag xs → ⊥ = λ m. free (mathlib.Core.List.Memᴰ.tail m) in
      by-taken (taken s.map b x) refl other rest (λ f₁ ds₁ b₁ e₁ k₁ out₁. ends_at xs f₁ ds₁ b₁ e₁ k₁ out₁ rest)
    where
      by-taken : (t : Taken) → taken s.map b x ≡ t → (x ≡ flag → ⊥) → (Memᴰ flag xs → ⊥)
          → ((f₁ : Bool) (ds₁ : List ℕ) (b₁ : Bool) (e₁ : ReceiverEnd) → At f₁ ds₁ b₁ e₁ → (f₁ ≡ false → (ds₁ ≡ []) × (b₁ ≡ false)) → Ends (comes f₁ ds₁ b₁ xs) (receive (received e₁ xs) flag))
          → Ends (comes f ds b (x ∷ xs)) (receive (received (receive e x).after xs) flag)
      by-taken Removed q other rest ih =
          rw (unstuffed-cons s.map b x xs, q, kept-removed s.map x xs (is_removed b x q), removed-is f ds b e k x other q) (ih f ds b e k out)
      by-taken Escape q other rest ih =
          let r = not-removed b x Escape q (λ z. let i : ◌≡◌ {A = ℕ} 0 1 = cc in omega arith) in
          subst (λ (t : ReportAndPacket). Ends t (receive (received (receive e x).after xs) flag)) (sym (begun f x xs _ quiet_answer r))
          (rw (unstuffed-cons s.map b x xs, q) (ih true ds true (receive e x).after (escape-is f ds b e k x other q) (λ z. true-false z)))
      by-taken (Data y) q other rest ih =
          let r = not-removed b x (Data y) q (λ z. let i : ◌≡◌ {A = ℕ} 0 1 = cc in omega arith) in
          let u = unstuffed s.map false xs in
          subst (λ (t : ReportAndPacket). Ends t (receive (received (receive e x).after xs) flag)) (sym (begun f x xs _ quiet_answer r))
          (rw (unstuffed-cons s.map b x xs, q)
          (decide (ltb (length ds) (largest_frame g))
          (λ room.
          subst (λ (l : List ℕ). Ends (tells l u.escaped) (receive (received (receive e x).after xs) flag)) (append_assoc ds (y ∷ []) u.octets)
          (ih true (ds ++ (y ∷ [])) false (receive e x).after (data_is f ds b e k x other y q (ltb-true _ _ room)) (λ z. true-false z)))
          (λ room.
          let full : largest_frame g ≤ length ds = ltb-false _ _ room in
          let many : largest_frame g < length (ds ++ (y ∷ u.octets)) = omega (arith, length-append ds (y ∷ u.octets)) in
          rw (lt-ltb _ _ many) (full-ends xs (receive e x).after (full_is f ds b e k x other y q full) rest))))

-- ---- the theorem

all_quiet : (xs : List ℕ) (e : ReceiverEnd) → ReceiverReady e → (Memᴰ flag xs → ⊥) → map report_and_packet (receives e xs) ≡ replicate (length xs) quiet_answer
unfolding receives
all_quiet [] e a free = refl
all_quiet (x ∷ xs) e a free =
    let silent = receives-so.others e a x (λ q. free (mathlib.Core.List.Memᴰ.head (sym q))) in
    ap₂ (λ (h : ReportAndPacket) (hs : List ReportAndPacket). h ∷ hs) (ap (λ (r : Answer). record { report = r; packet = stands_for r (receive e x).after }) silent)
    (all_quiet xs (receive e x).after (passes e x a).ready (λ m. free (mathlib.Core.List.Memᴰ.tail m)))

pub frame-by-frame : FrameByFrame
frame-by-frame e at xs free =
    let s = e.state in
    let o = out-fresh _ s (counts _ s at.ready.bounds) at.out in
    let b = plain-bounds _ s at.reads at.ready.bounds in
    let not-escaped : is_escaped s.mode ≡ false = decide (is_escaped s.mode) (λ q. true-false (sym (b.escape q) ∙ at.out)) (λ q. q) in
    let m : s.mode ≡ plain = mode-by s.mode at.reads not-escaped in
    let k : At s false [] false e =
    record {
      ready = at.ready;
      same = record { settings-is = refl; map-is = refl; turn-is = refl; held-is = refl; resumed-is = o.resumed-0 };
      mode-is = m;
      clean = o.refusal-0;
      framed-is = at.out;
      count = o.decoded-0;
      there = refl;
      fits = omega arith;
    } in
    let t = ends_at s xs false [] false e k (λ _. (refl, refl)) free in
    record {
      octets = all_quiet xs e at.ready free;
      report = t.report-is ∙ turned _ _ (is_empty (kept s.map xs));
      after = t.state-is ∙ sym (out-is s o.decoded-0 o.left-0 o.zeros-0 o.last-0 o.resumed-0 o.refusal-0 at.out m);
    }
  where
    turned : (t u : ReportAndPacket) (c : Bool) → cond (not c) t u ≡ cond c u t
    turned t u true = refl
    turned t u false = refl
