-- Demand 2, over any list of calls: lane by lane, what is loaded is what is closed and what the lane still holds; and so nothing is lost. And
-- of one packet, that it is delivered and which octets go out.
use mathlib.Core.Path.{◌≡◌, refl, sym, ap, subst, ◌∙◌}
use mathlib.Core.Bool.{Bool, true, false, cond, ◌&&◌}
use mathlib.Core.List.{List, [], ◌∷◌, ◌++◌, map, append-nil}
use mathlib.Core.Option.{Option, none, some}
use Prim.Native.Nat.{ℕ, zero, suc, ◌+◌, ◌/◌, ◌≤◌}
use native.Mathlib.Numerals.{add-one}
use native.Mathlib.Omega.{arith}
use borrow.Author.Tests.{le-ltb, lt-ltb, ne_eqb}
use lib.ListN.{length, take, replicate}
use lib.Seq.{take-nil, take-append_seam}
use Rattle.cobs.specs.CodeBlocks.{frame, uninterrupted}
use Rattle.link.specs.Agreed.{Settings, Agreed, agreed, least_packet, largest_frame, valid}
use Rattle.link.specs.Answers.{idle}
use Rattle.link.specs.Sender.{Lane, low, high, LaneState, Out, closes, breaks_off, sends, sends_nothing, refuses, lane_state, lane_area, out_answer, loaded, Load, next, put_frame, load}
use Rattle.link.specs.SenderParts.{SenderReady}
use Rattle.link.specs.Receiver.{PlainReading, Receive}
use Rattle.link.specs.Runs.{Station, Written, SenderCall, loading, next_octet, fresh_station, lane_packet, lanes_after, same_lane, is_done, loaded_by, after_load, after_next, run, loaded_into, writes, written, written_octets, sent_by, at_true, receives, packet_in, present, packets_in, closed_by, closed_packets}
use Rattle.link.specs.Progress.{BothEmpty, calls_to_empty, BeginsNext, next_calls, SendsOf, PacketUninterrupted}
use Rattle.link.specs.Demands.{fresh_receiver, LongEnough, NothingLoadedIsLost, Delivery}
use Rattle.link.proofs.Follow.{frame-long}
use Rattle.link.proofs.SenderBounds as bounds
use Rattle.link.proofs.Sound.{Stock, Sound, sound-fresh, sound-load, sound-next, sound-run}
use Rattle.link.proofs.UnderWay.{run-append}
use Rattle.link.proofs.Demands.{each-packet, sound-line}
use Rattle.link.proofs.Progress.{ready-put, ready-run, idle-if-empty, emptied}
use Rattle.link.proofs.Uninterrupted.{sent-uninterrupted}

-- the packet of a lane, as a list of one or none
abbrev as_list : Option (List ℕ) → List (List ℕ)
as_list m = present (m ∷ [])

-- what the octets of a lane close
abbrev closing : Written → Option (List ℕ)
closing x = closed_by x.out x.sent_for

abbrev closings : Lane → List Written → List (Option (List ℕ))
closings l es = map closing (at_true (sent_by l es) es)

abbrev closed_of : Lane → List Written → List (List ℕ)
closed_of l es = present (closings l es)

-- ---- lane by lane

-- an empty lane holds no packet
none-held : (g : Agreed) (q : LaneState) (a : List ℕ) (m : Option (List ℕ)) → Stock g q a m → q.length ≡ 0 → m ≡ none
none-held g q a none st e = refl
none-held g q a (some p) st e = absurd (omega (arith, st.long, st.big, frame-long g p))

module _ (g : Agreed) (p : List ℕ) (w : Station) (i : Sound g w) (ys : List (List ℕ)) where
  load-adds : (l k : Lane)
      → as_list (lane_packet l (after_load k p w).lanes) ++ ys
      ≡ as_list (lane_packet l w.lanes) ++ cond (same_lane l k && is_done (load k p w.end.state (lane_area k w.end)).answer) (p ∷ ys) ys
  unfolding after_load put_frame
  load-adds low low =
      bounds.by-load g low p w.end.state w.end.low
      (λ t. as_list (loaded_by t low p w).lanes.low ++ ys ≡ as_list w.lanes.low ++ cond (true && is_done t.answer) (p ∷ ys) ys) i.agrees (λ _. refl)
      (λ k. rw (none-held g w.end.state.low w.end.low w.lanes.low i.stock-low k.free))
  load-adds low high =
      bounds.by-load g high p w.end.state w.end.high
      (λ t. as_list (loaded_by t high p w).lanes.low ++ ys ≡ as_list w.lanes.low ++ cond (false && is_done t.answer) (p ∷ ys) ys) i.agrees (λ _. refl)
      (λ _. refl)
  load-adds high low =
      bounds.by-load g low p w.end.state w.end.low
      (λ t. as_list (loaded_by t low p w).lanes.high ++ ys ≡ as_list w.lanes.high ++ cond (false && is_done t.answer) (p ∷ ys) ys) i.agrees (λ _. refl)
      (λ _. refl)
  load-adds high high =
      bounds.by-load g high p w.end.state w.end.high
      (λ t. as_list (loaded_by t high p w).lanes.high ++ ys ≡ as_list w.lanes.high ++ cond (true && is_done t.answer) (p ∷ ys) ys) i.agrees (λ _. refl)
      (λ k. rw (none-held g w.end.state.high w.end.high w.lanes.high i.stock-high k.free))

one-first : (m : Option (List ℕ)) (os : List (Option (List ℕ))) (ys zs : List (List ℕ)) → present os ++ zs ≡ ys → present (m ∷ os) ++ zs ≡ as_list m ++ ys
one-first none os ys zs e = e
one-first (some p) os ys zs e = ap (λ (l : List (List ℕ)). p ∷ l) e

-- what a call writes takes from a lane the packet that it closes
next-takes : (l : Lane) (o : Out) (w : Station) (es : List Written) (ys zs : List (List ℕ)) → closed_of l es ++ zs ≡ as_list (lane_packet l (lanes_after o w.lanes)) ++ ys
    → closed_of l (writes o w es) ++ zs ≡ as_list (lane_packet l w.lanes) ++ ys
next-takes low (closes low) w es ys zs h = one-first w.lanes.low (closings low es) ys zs h
next-takes low (closes high) w es ys zs h = h
next-takes high (closes low) w es ys zs h = h
next-takes high (closes high) w es ys zs h = one-first w.lanes.high (closings high es) ys zs h
next-takes low breaks_off w es ys zs h = h
next-takes high breaks_off w es ys zs h = h
next-takes low (sends low x) w es ys zs h = h
next-takes low (sends high x) w es ys zs h = h
next-takes high (sends low x) w es ys zs h = h
next-takes high (sends high x) w es ys zs h = h
next-takes low sends_nothing w es ys zs h = h
next-takes high sends_nothing w es ys zs h = h
next-takes low (refuses n) w es ys zs h = h
next-takes high (refuses n) w es ys zs h = h

lane-by-lane : (g : Agreed) (l : Lane) (w : Station) (cs : List SenderCall) → Sound g w
    → closed_of l (written w cs) ++ as_list (lane_packet l (run w cs).lanes) ≡ as_list (lane_packet l w.lanes) ++ loaded_into l w cs
unfolding written run loaded_into after_next
lane-by-lane g l w [] i = sym (append-nil _)
lane-by-lane g l w (loading k p ∷ cs) i =
    lane-by-lane g l (after_load k p w) cs (sound-load g k p w i) ∙ load-adds g p w i (loaded_into l (after_load k p w) cs) l k
lane-by-lane g l w (next_octet ∷ cs) i =
    next-takes l (next w.end).out w (written (after_next w) cs) _ _ (lane-by-lane g l (after_next w) cs (sound-next g w i))

-- ---- nothing is lost

loads-only : (l : Lane) (w : Station) (cs : List SenderCall) (n : ℕ) → loaded_into l w (cs ++ replicate n next_octet) ≡ loaded_into l w cs
unfolding loaded_into
loads-only l w [] zero = refl
loads-only l w [] (suc n) = loads-only l (after_next w) [] n
loads-only l w (loading k p ∷ cs) n = rw (loads-only l (after_load k p w) cs n)
loads-only l w (next_octet ∷ cs) n = loads-only l (after_next w) cs n

map-at-true : (f : Receive → Option (List ℕ)) (bs : List Bool) (hs : List Receive) → map f (at_true bs hs) ≡ at_true bs (map f hs)
map-at-true f [] hs = refl
map-at-true f (b ∷ bs) [] = refl
map-at-true f (true ∷ bs) (h ∷ hs) = ap (λ (l : List (Option (List ℕ))). f h ∷ l) (map-at-true f bs hs)
map-at-true f (false ∷ bs) (h ∷ hs) = map-at-true f bs hs

closings-at-true : (bs : List Bool) (es : List Written) → at_true bs (map closing es) ≡ map closing (at_true bs es)
closings-at-true [] es = refl
closings-at-true (b ∷ bs) [] = refl
closings-at-true (true ∷ bs) (x ∷ es) = ap (λ (l : List (Option (List ℕ))). closing x ∷ l) (closings-at-true bs es)
closings-at-true (false ∷ bs) (x ∷ es) = closings-at-true bs es

next-calls : (n : ℕ) → next_calls (replicate n next_octet) ≡ n
unfolding next_calls
next-calls zero = refl
next-calls (suc n) = rw (next-calls n) (add-one n)

ready-fresh : (t : Settings) → valid (agreed t) ≡ true → (al ah : List ℕ) → largest_frame (agreed t) ≤ length al → largest_frame (agreed t) ≤ length ah → SenderReady (fresh_station t al ah).end
ready-fresh t v al ah h k = record { valid = v; low = h; high = k; bounds = bounds.in_bounds_lem (agreed t) _ (sound-fresh t al ah).in-bounds }

module _ (t : Settings) (reading : PlainReading) (v : valid (agreed t) ≡ true) (al ah first second : List ℕ) (long : LongEnough t al ah first second) where
  abbrev fresh : Station
  fresh = fresh_station t al ah

  abbrev calls-for : List SenderCall → List Receive
  calls-for cs = receives (fresh_receiver t reading first second) (written_octets (written fresh cs))

  ready : SenderReady fresh.end
  ready = ready-fresh t v al ah long.low long.high

  -- the packets at a lane's octets are those that its octets close
  told : (l : Lane) (cs : List SenderCall) → packets_in (at_true (sent_by l (written fresh cs)) (calls-for cs)) ≡ closed_of l (written fresh cs)
  told l cs =
      let es = written fresh cs in
      let hs = calls-for cs in
      ap present
      (map-at-true packet_in (sent_by l es) hs
      ∙ (ap (at_true (sent_by l es)) (each-packet false es hs (sound-line t reading v al ah first second long.first long.second cs).each) ∙ closings-at-true (sent_by l es) es))

  module _ (cs : List SenderCall) (n : ℕ) (enough : calls_to_empty (run fresh cs).end.state ≤ n) where
    abbrev all : List SenderCall
    all = cs ++ replicate n next_octet

    empty : BothEmpty (run fresh all).end.state
    empty = rw (run-append fresh cs (replicate n next_octet)) (emptied (run fresh cs) (ready-run fresh cs ready) n enough)

    ends-idle : out_answer (next (run fresh all).end).out ≡ idle
    ends-idle = idle-if-empty.always (run fresh all).end (ready-run fresh all ready) empty

    none_left : (l : Lane) → lane_packet l (run fresh all).lanes ≡ none
    none_left low = none-held (agreed t) _ _ _ (sound-run (agreed t) fresh all (sound-fresh t al ah)).stock-low empty.low
    none_left high = none-held (agreed t) _ _ _ (sound-run (agreed t) fresh all (sound-fresh t al ah)).stock-high empty.high

    none_before : (l : Lane) → lane_packet l fresh.lanes ≡ none
    none_before low = refl
    none_before high = refl

    all_closed : (l : Lane) → closed_of l (written fresh all) ≡ loaded_into l fresh cs
    all_closed l =
        sym (append-nil _)
        ∙ (ap (λ (m : Option (List ℕ)). closed_of l (written fresh all) ++ as_list m) (sym (none_left l))
        ∙ (lane-by-lane (agreed t) l fresh all (sound-fresh t al ah)
        ∙ (ap (λ (m : Option (List ℕ)). as_list m ++ loaded_into l fresh all) (none_before l) ∙ loads-only l fresh cs n)))

    reported : (l : Lane) → packets_in (at_true (sent_by l (written fresh all)) (calls-for all)) ≡ loaded_into l fresh cs
    reported l = told l all ∙ all_closed l

pub nothing-lost : (settings : Settings) (reading : PlainReading) → valid (agreed settings) ≡ true → NothingLoadedIsLost settings reading
nothing-lost t reading v al ah first second long calls n enough = (
  ends-idle t reading v al ah first second long calls n enough,
  reported t reading v al ah first second long calls n enough,
)

-- ---- one packet

abbrev other : Lane → Lane
other low = high
other high = low

same_first : (m : Option (List ℕ)) (os os' : List (Option (List ℕ))) → present os ≡ present os' → present (m ∷ os) ≡ present (m ∷ os')
same_first none os os' e = e
same_first (some p) os os' e = ap (λ (l : List (List ℕ)). p ∷ l) e

none_first : (m : Option (List ℕ)) (os : List (Option (List ℕ))) → present (m ∷ os) ≡ [] → ((os' : List (Option (List ℕ))) → present (m ∷ os') ≡ present os')
    × (present os ≡ [])
none_first none os e = (λ _. refl, e)
none_first (some p) os e = absurd (let z : ◌≡◌ {A = ℕ} 0 1 = cc in omega arith)

-- where one lane closes nothing, all that is closed is the other's
abbrev OneLane : Lane → List Written → Type 0
OneLane l es = closed_of (other l) es ≡ [] → closed_packets es ≡ closed_of l es

one_more : (l : Lane) (o : Out) (x : Written) (es : List Written) → x.out ≡ o → OneLane l es → OneLane l (x ∷ es)
one_more low (closes low) x es q ih = rw q (λ e. same_first x.sent_for (map closing es) (closings low es) (ih e))
one_more high (closes high) x es q ih = rw q (λ e. same_first x.sent_for (map closing es) (closings high es) (ih e))
one_more low (closes high) x es q ih = rw q (λ e. let k = none_first x.sent_for (closings high es) e in k.0 (map closing es) ∙ ih k.1)
one_more high (closes low) x es q ih = rw q (λ e. let k = none_first x.sent_for (closings low es) e in k.0 (map closing es) ∙ ih k.1)
one_more low breaks_off x es q ih = rw q ih
one_more high breaks_off x es q ih = rw q ih
one_more low (sends low y) x es q ih = rw q ih
one_more low (sends high y) x es q ih = rw q ih
one_more high (sends low y) x es q ih = rw q ih
one_more high (sends high y) x es q ih = rw q ih
one_more low sends_nothing x es q ih = rw q ih
one_more high sends_nothing x es q ih = rw q ih
one_more low (refuses n) x es q ih = rw q ih
one_more high (refuses n) x es q ih = rw q ih

one_lane : (l : Lane) (es : List Written) → OneLane l es
one_lane l [] = λ _. refl
one_lane l (x ∷ es) = one_more l x.out x es refl (one_lane l es)

module _ (t : Settings) (v : valid (agreed t) ≡ true) (al ah : List ℕ) (h : largest_frame (agreed t) ≤ length al) (k : largest_frame (agreed t) ≤ length ah) (p : List ℕ)
    (big : least_packet ≤ length p) (small : length p ≤ (agreed t).limit) where
  -- a fresh sender takes the packet
  takes : (l : Lane) → load l p (fresh_station t al ah).end.state (lane_area l (fresh_station t al ah).end)
      ≡ put_frame (agreed t) l p (fresh_station t al ah).end.state (lane_area l (fresh_station t al ah).end)
  unfolding load
  takes low =
      let g = agreed t in
      rw (
        v,
        le-ltb (length al) (largest_frame g) h,
        bounds.in_bounds_lem g _ (sound-fresh t al ah).in-bounds,
        le-ltb (length p) least_packet big,
        le-ltb g.limit (length p) small,
      )
  takes high =
      let g = agreed t in
      rw (
        v,
        le-ltb (length ah) (largest_frame g) k,
        bounds.in_bounds_lem g _ (sound-fresh t al ah).in-bounds,
        le-ltb (length p) least_packet big,
        le-ltb g.limit (length p) small,
      )

  loads-it : (l : Lane) → loaded_into l (fresh_station t al ah) (loading l p ∷ []) ≡ p ∷ []
  unfolding loaded_into put_frame
  loads-it low = rw (takes low)
  loads-it high = rw (takes high)

  loads-no-other : (l : Lane) → loaded_into (other l) (fresh_station t al ah) (loading l p ∷ []) ≡ []
  unfolding loaded_into
  loads-no-other low = refl
  loads-no-other high = refl

  -- so many calls are enough
  calls-it : (l : Lane) → (let n = length (frame (agreed t).check p) in
      calls_to_empty (run (fresh_station t al ah) (loading l p ∷ [])).end.state ≤ n + 1 + n / 207 + 1)
  unfolding run after_load put_frame
  calls-it low =
      let n = length (frame (agreed t).check p) in
      let some : n ≡ 0 → ⊥ = (λ e. omega (arith, frame-long (agreed t) p)) in
      rw (takes low, ne_eqb n 0 some, lt-ltb 0 n (omega (arith, some))) (omega arith)
  calls-it high =
      let n = length (frame (agreed t).check p) in
      let some : n ≡ 0 → ⊥ = (λ e. omega (arith, frame-long (agreed t) p)) in
      rw (takes high, ne_eqb n 0 some) (omega arith)

  empty-lane : (l : Lane) → (lane_state l (fresh_station t al ah).end.state).length ≡ 0
  empty-lane low = refl
  empty-lane high = refl

  -- the sender with it
  module _ (l : Lane) where
    abbrev holds : Station
    holds = loaded_by (put_frame (agreed t) l p (fresh_station t al ah).end.state (lane_area l (fresh_station t al ah).end)) l p (fresh_station t al ah)

  not-empty : loaded (record { length = length (frame (agreed t).check p); position = 0 }) ≡ true
  not-empty = lt-ltb 0 (length (frame (agreed t).check p)) (omega (arith, frame-long (agreed t) p))

  begins-next : (l : Lane) → BeginsNext l (holds l).end.state
  unfolding put_frame
  begins-next low =
      record { free = refl; start = refl; holds = not-empty; high_empty = λ _. refl; not_suspended = λ _. refl }
  begins-next high =
      record { free = refl; start = refl; holds = not-empty; high_empty = bounds.low-high; not_suspended = bounds.low-high }

  frame-there : (l : Lane) → take (lane_state l (holds l).end.state).length (lane_area l (holds l).end) ≡ frame (agreed t).check p
  unfolding put_frame
  frame-there low = take-append_seam (frame (agreed t).check p) _
  frame-there high = take-append_seam (frame (agreed t).check p) _

  settings-there : (l : Lane) → (holds l).end.state.settings ≡ t
  unfolding put_frame
  settings-there low = refl
  settings-there high = refl

  sends-it : (l : Lane) (n : ℕ) → SendsOf l (uninterrupted (agreed t).zxe (frame (agreed t).check p)) n (written (fresh_station t al ah) (loading l p ∷ replicate n next_octet))
  unfolding written after_load loaded_into next_calls
  sends-it l zero = take-nil (length (uninterrupted (agreed t).zxe (frame (agreed t).check p)) + 1)
  sends-it l (suc n) =
      let calls : List SenderCall = replicate n next_octet in
      let Sent : Station → List ℕ → Type 0 = λ w octets. SendsOf l octets (suc n) (written w (next_octet ∷ calls)) in
      let r = ready-put (fresh_station t al ah) (ready-fresh t v al ah h k) l p (record { free = empty-lane l; big = big; small = small }) in
      let is : uninterrupted (agreed (holds l).end.state.settings).zxe (take (lane_state l (holds l).end.state).length (lane_area l (holds l).end))
      ≡ uninterrupted (agreed t).zxe (frame (agreed t).check p) = rw (settings-there l, frame-there l) in
      subst (λ (a : Load). Sent (loaded_by a l p (fresh_station t al ah)) (uninterrupted (agreed t).zxe (frame (agreed t).check p))) (sym (takes l))
      (subst (Sent (holds l)) is
      (rw (next-calls n, add-one n) at (sent-uninterrupted l (holds l) r (begins-next l) calls (λ _ _. loads-only high (after_next (holds l)) [] n))))

pub packet-uninterrupted : PacketUninterrupted
packet-uninterrupted t v al ah h k l p big small n = sends-it t v al ah h k p big small l n

pub delivery : (settings : Settings) (reading : PlainReading) → valid (agreed settings) ≡ true → Delivery settings reading
delivery t reading v al ah first second long l p big small =
    let n = length (frame (agreed t).check p) in
    let k = n + 1 + n / 207 + 1 in
    let calls = loading l p ∷ [] in
    let enough = calls-it t v al ah long.low long.high p big small l in
    let closed = all_closed t reading v al ah first second long calls k enough in
    (sound-line t reading v al ah first second long.first long.second (calls ++ replicate k next_octet)).packets
    ∙ (one_lane l (written (fresh_station t al ah) (calls ++ replicate k next_octet)) (closed (other l) ∙ loads-no-other t v al ah long.low long.high p big small l)
    ∙ (closed l ∙ loads-it t v al ah long.low long.high p big small l))
