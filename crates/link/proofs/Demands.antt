-- Demand 3, and demand 2 over any list of calls: the two ends stay in step.
use mathlib.Core.Path.{◌≡◌, refl, sym, ap, subst, ◌∙◌}
use mathlib.Core.Bool.{Bool, true, false, not, ◌&&◌}
use mathlib.Core.Logic.{⊎_elim}
use mathlib.Core.List.Memᴰ
use mathlib.Core.List.{List, [], ◌∷◌, ◌++◌, map, Memᴰ}
use mathlib.Core.Option.{Option, none, some}
use Prim.Native.Nat.{ℕ, ◌≤◌}
use native.Mathlib.Omega.{arith}
use lib.ListN.{length}
use Rattle.std.specs.Prelude.{Some, None}
use Rattle.fcs.specs.CheckSequence as check
use Rattle.cobs.specs.CodeBlocks.{flag}
use Rattle.link.specs.Agreed.{Settings, Agreed, agreed, most_decoded, valid}
use Rattle.link.specs.Answers.{Answer, done, octet, idle, quiet, packet, held, refused}
use Rattle.link.specs.Sender.{Lane, low, high, OnLine, LaneState, Out, closes, breaks_off, sends, sends_nothing, refuses, out_answer, next}
use Rattle.link.specs.Receiver.{PlainReading, ReceiverEnd, Receive, is_held, is_plain, receive}
use Rattle.link.specs.Receiver as receiver
use Rattle.link.specs.ReceiverParts.{ReceiverReady}
use Rattle.link.specs.Runs.{received, Station, Written, SenderCall, loading, next_octet, fresh_station, writes, written, written_octets, at_true, at_false, packet_in, refusal_in, refusal_of, stands_for, present, refusals_in, under_way, ends_its_frame, aside_after, left_aside, replaces_after, AllArrive, ExpectedReport, AllAsExpected, closed_by, run, after_load, after_next}
use Rattle.link.specs.Demands.{fresh_receiver, PacketsComeThrough, SoundLine, AfterChosenFlag, frame_began_ff, Demand3}
use Rattle.link.proofs.Cobs.{cobs_receives, in-cobs}
use Rattle.link.proofs.Agreed.{sound-check}
use Rattle.link.proofs.ReceiverBounds.{Ready, fresh_in, in_bounds_lem}
use Rattle.link.proofs.Whole.{ready_of, passes}
use Rattle.link.proofs.Stays.{receive-settings, run-settings, fresh-settings, flag-begins}
use Rattle.link.proofs.AsCobs.{cobs-mode, as-cobs}
use Rattle.link.proofs.FirstOctets.{never-FF}
use Rattle.link.proofs.Way.{sender}
use Rattle.link.proofs.Sound.{station, Sound, sound-fresh, sound-run, sound-load, sound-next}
use Rattle.link.proofs.Lock.{HeldLow, Lock, Answered, Leads, lock-next, lock-load}
use Rattle.link.proofs.UnderWay.{flag_off, under-way, under_way_by, under_way_in, run-append}

-- ---- in step through a list of calls

-- every octet and the call for it, the packet m being left aside (b), and the next fragment taking an older one's place or not (s)
abbrev AllAnswered : Option (List ℕ) → Bool → Bool → List Written → List Receive → Type 0
AllAnswered m b s [] [] = Unit {0}
AllAnswered m b s [] (h ∷ hs) = ⊥
AllAnswered m b s (x ∷ es) [] = ⊥
AllAnswered m b s (x ∷ es) (h ∷ hs) = Answered m b s x h × AllAnswered m (aside_after b x.out) (replaces_after s x.out) es hs

-- an octet is written or not, and the rest is answered
writes-answered : (g : Agreed) (m : Option (List ℕ)) (b s : Bool) (o : Out) (w w' : Station) (es : List Written) (e : ReceiverEnd)
    → Leads g m b s o w.lanes w.end.state.low.position w' e
    → ((b' s' : Bool) (e' : ReceiverEnd) → Lock g m b' s' w' e' → AllAnswered m b' s' es (cobs_receives e' (written_octets es)))
    → AllAnswered m b s (writes o w es) (cobs_receives e (written_octets (writes o w es)))
unfolding cobs_receives
writes-answered g m b s (closes a) w w' es e l f = (l.0, f _ _ _ l.1)
writes-answered g m b s breaks_off w w' es e l f = (l.0, f _ _ _ l.1)
writes-answered g m b s (sends a x) w w' es e l f = (l.0, f _ _ _ l.1)
writes-answered g m b s sends_nothing w w' es e l f = f b s e l
writes-answered g m b s (refuses n) w w' es e l f = f b s e l

answered : (g : Agreed) (law : check.Sound g.check) (m : Option (List ℕ)) (b s : Bool) (w : Station) (cs : List SenderCall) (e : ReceiverEnd)
    → Sound g w → Lock g m b s w e → AllAnswered m b s (written w cs) (cobs_receives e (written_octets (written w cs)))
unfolding written cobs_receives
answered g law m b s w [] e i k = tt
answered g law m b s w (loading l p ∷ cs) e i k =
    answered g law m b s (after_load l p w) cs e (sound-load g l p w i) (lock-load g m b s l p w e i k)
answered g law m b s w (next_octet ∷ cs) e i k =
    writes-answered g m b s (next w.end).out w (after_next w) (written (after_next w) cs) e (lock-next g law m b s w e i k)
    (λ b' s' e' k'. answered g law m b' s' (after_next w) cs e' (sound-next g w i) k')

-- ---- what is left aside, and all else

all-arrive : (m : Option (List ℕ)) (b s : Bool) (es : List Written) (hs : List Receive) → AllAnswered m b s es hs → AllArrive hs
all-arrive m b s [] [] a = tt
all-arrive m b s [] (h ∷ hs) a = absurd a
all-arrive m b s (x ∷ es) [] a = absurd a
all-arrive m b s (x ∷ es) (h ∷ hs) a = (a.0.arrives, all-arrive m (aside_after b x.out) (replaces_after s x.out) es hs a.1)

aside-is : (m : Option (List ℕ)) (x : Written) (c : Bool) (marks : List Bool) (es : List Written) → (c ≡ true → x.sent_for ≡ m)
    → ((f : Written) → Memᴰ f (at_true marks es) → f.sent_for ≡ m)
    → (f : Written) → Memᴰ f (at_true (c ∷ marks) (x ∷ es)) → f.sent_for ≡ m
aside-is m x true marks es h k f i = ⊎_elim (λ e. ap (λ (y : Written). y.sent_for) e ∙ h refl) (k f) (Memᴰ.cases_cons i)
aside-is m x false marks es h k f i = k f i

all-aside : (m : Option (List ℕ)) (b s : Bool) (es : List Written) (hs : List Receive) → AllAnswered m b s es hs
    → (f : Written) → Memᴰ f (at_true (left_aside b es) es) → f.sent_for ≡ m
unfolding left_aside
all-aside m b s [] hs a f i = absurd (Memᴰ.not-nil i)
all-aside m b s (x ∷ es) [] a f i = absurd a
all-aside m b s (x ∷ es) (h ∷ hs) a f i =
    aside-is m x (ends_its_frame b x.out) (left_aside (aside_after b x.out) es) es (λ e. (a.0.aside e).0)
    (all-aside m (aside_after b x.out) (replaces_after s x.out) es hs a.1) f i

expected-is : (s : Bool) (x : Written) (h : Receive) (c : Bool) (marks : List Bool) (es : List Written) (hs : List Receive)
    → (c ≡ false → ExpectedReport s x.out x.sent_for x.low_position h) → (c ≡ true → replaces_after s x.out ≡ s)
    → AllAsExpected (replaces_after s x.out) (at_false marks es) (at_false marks hs)
    → AllAsExpected s (at_false (c ∷ marks) (x ∷ es)) (at_false (c ∷ marks) (h ∷ hs))
expected-is s x h true marks es hs f i a = subst (λ (t : Bool). AllAsExpected t (at_false marks es) (at_false marks hs)) (i refl) a
expected-is s x h false marks es hs f i a = (f refl, a)

all-expected : (m : Option (List ℕ)) (b s : Bool) (es : List Written) (hs : List Receive) → AllAnswered m b s es hs
    → AllAsExpected s (at_false (left_aside b es) es) (at_false (left_aside b es) hs)
unfolding left_aside
all-expected m b s [] hs a = tt
all-expected m b s (x ∷ es) [] a = absurd a
all-expected m b s (x ∷ es) (h ∷ hs) a =
    expected-is s x h (ends_its_frame b x.out) (left_aside (aside_after b x.out) es) es hs a.0.expected (λ e. (a.0.aside e).1)
    (all-expected m (aside_after b x.out) (replaces_after s x.out) es hs a.1)

-- no packet under way at the start: nothing is left aside
ends-none : (o : Out) → ends_its_frame false o ≡ false
ends-none (closes low) = refl
ends-none (closes high) = refl
ends-none breaks_off = refl
ends-none (sends l x) = refl
ends-none sends_nothing = refl
ends-none (refuses n) = refl

none_after : (o : Out) → aside_after false o ≡ false
none_after (closes low) = refl
none_after (closes high) = refl
none_after breaks_off = refl
none_after (sends l x) = refl
none_after sends_nothing = refl
none_after (refuses n) = refl

none-aside : (m : Option (List ℕ)) (s : Bool) (es : List Written) (hs : List Receive) → AllAnswered m false s es hs → AllAsExpected s es hs
none-aside m s [] [] a = tt
none-aside m s [] (h ∷ hs) a = absurd a
none-aside m s (x ∷ es) [] a = absurd a
none-aside m s (x ∷ es) (h ∷ hs) a = (
  a.0.expected (ends-none x.out),
  none-aside m (replaces_after s x.out) es hs (subst (λ (b : Bool). AllAnswered m b (replaces_after s x.out) es hs) (none_after x.out) a.1),
)

-- ---- by lists

packet-of : (s : Bool) (o : Out) (m : Option (List ℕ)) (k : ℕ) (h : Receive) → ExpectedReport s o m k h → packet_in h ≡ closed_by o m
packet-of s (closes l) none k h a = absurd a
packet-of s (closes l) (some p) k h a = a
packet-of s breaks_off m k h a = ap (λ (r : Answer). stands_for r h.after) a
packet-of s (sends l x) m k h a = ap (λ (r : Answer). stands_for r h.after) a
packet-of s sends_nothing m k h a = absurd a
packet-of s (refuses n) m k h a = absurd a

packet-refusal : (a : Answer) (e : ReceiverEnd) (p : List ℕ) → stands_for a e ≡ some p → refusal_of a ≡ none
packet-refusal done e p q = refl
packet-refusal (octet x) e p q = refl
packet-refusal idle e p q = refl
packet-refusal quiet e p q = refl
packet-refusal (packet b n) e p q = refl
packet-refusal (held n b) e p q = refl
packet-refusal (refused n) e p q = absurd (let z : ◌≡◌ {A = ℕ} 0 1 = cc in omega arith)

refusal-of : (s : Bool) (o : Out) (m : Option (List ℕ)) (k : ℕ) (h : Receive) → ExpectedReport s o m k h → refusal_in h ≡ none
refusal-of s (closes l) none k h a = absurd a
refusal-of s (closes l) (some p) k h a = packet-refusal h.report h.after p a
refusal-of s breaks_off m k h a = ap refusal_of a
refusal-of s (sends l x) m k h a = ap refusal_of a
refusal-of s sends_nothing m k h a = absurd a
refusal-of s (refuses n) m k h a = absurd a

-- the packets, octet by octet
pub each-packet : (s : Bool) (es : List Written) (hs : List Receive) → AllAsExpected s es hs
    → map packet_in hs ≡ map (λ (x : Written). closed_by x.out x.sent_for) es
each-packet s [] [] a = refl
each-packet s [] (h ∷ hs) a = absurd a
each-packet s (x ∷ es) [] a = absurd a
each-packet s (x ∷ es) (h ∷ hs) a =
    rw (packet-of s x.out x.sent_for x.low_position h a.0, each-packet (replaces_after s x.out) es hs a.1)

no-refusal : (s : Bool) (es : List Written) (hs : List Receive) → AllAsExpected s es hs → refusals_in hs ≡ []
no-refusal s [] [] a = refl
no-refusal s [] (h ∷ hs) a = absurd a
no-refusal s (x ∷ es) [] a = absurd a
no-refusal s (x ∷ es) (h ∷ hs) a =
    rw (refusal-of s x.out x.sent_for x.low_position h a.0) (no-refusal (replaces_after s x.out) es hs a.1)

come-through : (s : Bool) (es : List Written) (hs : List Receive) → AllAsExpected s es hs → PacketsComeThrough s es hs
come-through s es hs a = record { each = a; packets = ap present (each-packet s es hs a); refusals = no-refusal s es hs a }

-- ---- the receiver before the chosen flag

-- a fresh receiver, plain reading off or on: it reads COBS
fresh-reads : (t : Settings) (reading : PlainReading) (a b : List ℕ) → is_plain (fresh_receiver t reading a b).state.mode ≡ false
fresh-reads t None a b = refl
fresh-reads t (Some map) a b = refl

fresh-out : (t : Settings) (reading : PlainReading) (a b : List ℕ) → (fresh_receiver t reading a b).state.framed ≡ false
fresh-out t None a b = refl
fresh-out t (Some map) a b = refl

pub fresh-ready : (t : Settings) (reading : PlainReading) → valid (agreed t) ≡ true → (a b : List ℕ) → most_decoded (agreed t) ≤ length a → most_decoded (agreed t) ≤ length b
    → ReceiverReady (fresh_receiver t reading a b)
fresh-ready t None v a b h k =
    record { valid = v; first = h; second = k; bounds = in_bounds_lem _ _ refl (λ _. refl) (fresh_in (agreed t) t receiver.kept_off 0 false None tt) }
fresh-ready t (Some map) v a b h k =
    record { valid = v; first = h; second = k; bounds = in_bounds_lem _ _ refl (λ q. absurd (omega arith)) (fresh_in (agreed t) t receiver.cobs map false None tt) }

-- ---- at the chosen flag

-- what is held then: of a suspended packet nothing is known
held-at-flag : (u : Bool) (q : LaneState) (a : List ℕ) (e : ReceiverEnd) → e.state.resumed ≡ false → HeldLow u u (not u && is_held e.state.held) q a e
held-at-flag true q a e r = refl
held-at-flag false q a e r = (refl, record { plain = r; is = refl })

module _ (g : Agreed) (ql qh : LaneState) (n z : ℕ) (t : Settings) (al ah : List ℕ) (bl bh : Option (List ℕ)) (e : ReceiverEnd) where
  start : (o : OnLine) (u c : Bool) → o ≡ None → Ready g e → e.state.framed ≡ false
      → Lock g bl u (not u && is_held e.state.held) (station (sender ql qh n z o u c t) al ah bl bh) e
  start (Some l) u c q r out = absurd (let i : ◌≡◌ {A = ℕ} 0 1 = cc in omega arith)
  start None u c q r out = record { ready = r; whose = λ _. refl; along = (out, held-at-flag u ql al e (r.bounds.out out).resumed-0) }

-- ---- the demands

-- under way after a flag is a suspended low packet, and no other
under-way-low : (o : OnLine) (u : Bool) → o ≡ None → under_way_by low o u ≡ u
under-way-low None u e = refl
under-way-low (Some l) u e = absurd (let i : ◌≡◌ {A = ℕ} 0 1 = cc in omega arith)

under-way-high : (o : OnLine) (u : Bool) → o ≡ None → under_way_by high o u ≡ false
under-way-high None u e = refl
under-way-high (Some l) u e = absurd (let i : ◌≡◌ {A = ℕ} 0 1 = cc in omega arith)

up-to-flag : (t : Settings) (a b : List ℕ) (l : Lane) (before : List SenderCall)
    → under_way l false (written (fresh_station t a b) (before ++ (next_octet ∷ []))) ≡ under_way_in l (after_next (run (fresh_station t a b) before))
unfolding run
up-to-flag t a b l before =
    let w = fresh_station t a b in
    ap (λ (c : Bool). under_way l c (written w (before ++ (next_octet ∷ [])))) (sym (none_yet l))
    ∙ (under-way (agreed t) l w (before ++ (next_octet ∷ [])) (sound-fresh t a b) ∙ ap (under_way_in l) (run-append w before (next_octet ∷ [])))
  where
    none_yet : (l : Lane) → under_way_by l None false ≡ false
    none_yet low = refl
    none_yet high = refl

-- of document 01's receiver, from the flag on
module _ (t : Settings) (v-t : valid (agreed t) ≡ true) (a b : List ℕ) (before after : List SenderCall) (e₁ : ReceiverEnd)
    (r : Ready (agreed t) e₁) (out : e₁.state.framed ≡ false) where
  abbrev v : Station
  v = fresh_station t a b

  after-flag : out_answer (next (run v before).end).out ≡ octet flag
      → (let w₁ = after_next (run v before) in
      let es = written w₁ after in
      AfterChosenFlag (written v (before ++ (next_octet ∷ []))) w₁ e₁ es (cobs_receives e₁ (written_octets es)))
  after-flag f =
      let g = agreed t in
      let w = run v before in
      let w₁ = after_next w in
      let p = w₁.end.state in
      let u = p.suspended in
      let i : Sound g w = sound-run g v before (sound-fresh t a b) in
      let off : p.on ≡ None = flag_off g w i f in
      let is : under_way low false (written v (before ++ (next_octet ∷ []))) ≡ u = up-to-flag t a b low before ∙ under-way-low p.on u off in
      let k : Lock g w₁.lanes.low u (not u && is_held e₁.state.held) w₁ e₁ =
      start g p.low p.high p.left p.zeros p.settings w₁.end.low w₁.end.high w₁.lanes.low w₁.lanes.high e₁
      p.on u p.cut off r out in
      let es = written w₁ after in
      let hs = cobs_receives e₁ (written_octets es) in
      let all = answered g (sound-check t) w₁.lanes.low u (not u && is_held e₁.state.held) w₁ after e₁ (sound-next g w i) k in
      record {
        one = up-to-flag t a b high before ∙ under-way-high p.on u off;
        suspended = is;
        arrive = all-arrive w₁.lanes.low u (not u && is_held e₁.state.held) es hs all;
        aside = rw is (all-aside w₁.lanes.low u (not u && is_held e₁.state.held) es hs all);
        through = rw is (come-through _ _ _ (all-expected w₁.lanes.low u (not u && is_held e₁.state.held) es hs all));
      }

pub demand3 : (settings : Settings) (reading : PlainReading) → valid (agreed settings) ≡ true → Demand3 settings reading
demand3 t reading v-t a b first second h₁ h₂ before after noise free f =
    let e₀ = fresh_receiver t reading first second in
    let c = as-cobs noise e₀ (fresh-ready t reading v-t first second h₁ h₂) (fresh-reads t reading first second)
    (λ o. ap (λ (k : Bool). frame_began_ff (not k) noise) (fresh-out t reading first second) ∙ free o) in
    let e = received e₀ noise in
    let p : is_plain e.state.mode ≡ false = ap is_plain c.mode ∙ fresh-reads t reading first second in
    let q = passes e flag c.ready in
    let e₁ = (receive e flag).after in
    let out : e₁.state.framed ≡ false = q.out refl in
    let p₁ : is_plain e₁.state.mode ≡ false =
    ap (λ (h : Receive). is_plain h.after.state.mode) (in-cobs e flag c.ready p (flag-begins e.state)) ∙ (ap is_plain (cobs-mode e flag c.ready p) ∙ p) in
    let settings-are : e₁.state.settings ≡ t = receive-settings e flag ∙ (run-settings noise e₀ ∙ fresh-settings t reading first second) in
    let r : Ready (agreed t) e₁ = subst (λ (s : Settings). Ready (agreed s) e₁) settings-are (ready_of e₁ q.ready p₁) in
    let w₁ = after_next (run (fresh_station t a b) before) in
    let es = written w₁ after in
    let i = sound-run (agreed t) (fresh_station t a b) before (sound-fresh t a b) in
    let d = as-cobs (written_octets es) e₁ q.ready p₁
    (λ _. ap (λ (k : Bool). frame_began_ff (not k) (written_octets es)) out ∙ never-FF (agreed t) true w₁ after (sound-next (agreed t) _ i) (λ _. flag_off (agreed t) _ i f)) in
    rw d.calls (after-flag t v-t a b before after e₁ r out f)

pub sound-line : (settings : Settings) (reading : PlainReading) → valid (agreed settings) ≡ true → SoundLine settings reading
sound-line t reading v a b first second h₁ h₂ calls =
    let e = fresh_receiver t reading first second in
    let w = fresh_station t a b in
    let ready = fresh-ready t reading v first second h₁ h₂ in
    let p = fresh-reads t reading first second in
    let k : Lock (agreed t) none false false w e = fresh-lock reading ready in
    let es = written w calls in
    let hs = cobs_receives e (written_octets es) in
    let c = as-cobs (written_octets es) e ready p
    (λ _. ap (λ (k : Bool). frame_began_ff (not k) (written_octets es)) (fresh-out t reading first second) ∙ never-FF (agreed t) true w calls (sound-fresh t a b) (λ _. refl)) in
    rw c.calls (come-through false es hs (none-aside none false es hs (answered (agreed t) (sound-check t) none false false w calls e (sound-fresh t a b) k)))
  where
    fresh-lock : (reading : PlainReading) → ReceiverReady (fresh_receiver t reading first second) → Lock (agreed t) none false false (fresh_station t a b) (fresh_receiver t reading first second)
    fresh-lock None z = record { ready = ready_of _ z refl; whose = λ _. refl; along = (refl, (refl, record { plain = refl; is = refl })) }
    fresh-lock (Some map) z = record { ready = ready_of _ z refl; whose = λ _. refl; along = (refl, (refl, record { plain = refl; is = refl })) }
