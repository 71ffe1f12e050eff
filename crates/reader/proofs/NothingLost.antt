-- Reading on loses nothing of what the calls for each octet answer.
use mathlib.Core.Path.{◌≡◌, refl, sym, ap, ◌∙◌}
use mathlib.Core.Bool.{Bool, true, false}
use mathlib.Core.List.{List, [], ◌∷◌, ◌++◌, map-append, flatten}
use Prim.Native.Nat.{ℕ, zero, suc, ◌-◌, ◌≤◌}
use native.Mathlib.Numerals.{one-add}
use native.Mathlib.Omega.{arith}
use Rattle.std.specs.Prelude.{if◌then◌else◌}
use lib.ListN.{length, take, drop, replicate, take-append-drop, length-drop, drop_of_length-le}
use Rattle.link.specs.Answers.{Answer, done, octet, idle, quiet, packet, held, refused, is_quiet}
use Rattle.link.specs.Receiver.{ReceiverEnd, Receive, receive}
use Rattle.link.specs.Runs.{receives, received, not_quiet}
use Rattle.reader.specs.Reading.{Reach, read_on}
use Rattle.reader.specs.NothingLost.{answers_of, Reading, AsTheCalls, not_quiet_calls, last_call, GoesOn, FirstThenRest, StretchesJoin, StretchCalls, read_stretch, read_stretches, AllReported}
use Rattle.reader.proofs.Steps.{from-quiet, at-report}

pub is-quiet : (a : Answer) → is_quiet a ≡ true → a ≡ quiet
is-quiet done q = cc
is-quiet (octet x) q = cc
is-quiet idle q = cc
is-quiet quiet q = refl
is-quiet (packet b n) q = cc
is-quiet (held n b) q = cc
is-quiet (refused n) q = cc

-- ---- one reading

suc-sub-one : (n : ℕ) → suc n - 1 ≡ n
suc-sub-one n = omega arith

-- the last octet comes after one answered Quiet
quiet-first : (a b : Answer) (n : ℕ) (l : List Answer) → a ≡ quiet → 1 ≤ n → l ≡ replicate (n - 1) quiet ++ (b ∷ [])
    → a ∷ l ≡ replicate n quiet ++ (b ∷ [])
quiet-first a b zero l p h q = absurd (omega arith)
quiet-first a b (suc n) l p h q = rw (q, p, suc-sub-one)

-- a stretch behind an octet answered Quiet
behind : (e : ReceiverEnd) (x : ℕ) (xs : List ℕ) → is_quiet (receive e x).report ≡ true
    → (let r = read_on (receive e x).after xs in
    Reading (receive e x).after xs r → answers_of (receives e (take (suc r.used) (x ∷ xs))) ≡ replicate r.used quiet ++ (r.report ∷ []))
unfolding receives read_on
behind e x [] q k = rw (is-quiet (receive e x).report q)
behind e x (y ∷ ys) q k = quiet-first _ _ _ _ (is-quiet (receive e x).report q) (k.least (omega arith)) (k.answers (omega arith))

one_more : (e : ReceiverEnd) (x : ℕ) (xs : List ℕ) (b : Bool) → is_quiet (receive e x).report ≡ b
    → Reading (receive e x).after xs (read_on (receive e x).after xs)
    → Reading e (x ∷ xs) (read_on e (x ∷ xs))
unfolding receives received
one_more e x xs true q k = rw (from-quiet e x xs (receive e x) refl q)
    (record {
      answers = λ l. rw (one-add, suc-sub-one) (behind e x xs q k);
      after = rw one-add k.after;
      most = omega (arith, k.most);
      least = λ l. omega arith;
      all = λ p. omega (arith, k.all p);
    })
one_more e x xs false q k =
    rw (at-report e x xs (receive e x) refl q)
    (record { answers = λ l. refl; after = refl; most = omega arith; least = λ l. omega arith; all = λ p. absurd (let z : ◌≡◌ {A = ℕ} 0 1 = cc in omega arith) })

pub as-the-calls : AsTheCalls
unfolding read_on received
as-the-calls e [] = record { answers = λ l. absurd (omega arith); after = refl; most = omega arith; least = λ l. absurd (omega arith); all = λ p. refl }
as-the-calls e (x ∷ xs) = one_more e x xs (is_quiet (receive e x).report) refl (as-the-calls (receive e x).after xs)

-- ---- the reports

goes_on : (e : ReceiverEnd) (x : ℕ) (xs : List ℕ) (b : Bool) → is_quiet (receive e x).report ≡ b
    → GoesOn (receive e x).after xs (read_on (receive e x).after xs)
    → GoesOn e (x ∷ xs) (read_on e (x ∷ xs))
unfolding receives not_quiet
goes_on e x xs true q k = rw (from-quiet e x xs (receive e x) refl q) (record { calls = simp (q, one-add) k.calls; answers = simp (q, one-add) k.answers })
goes_on e x xs false q k = rw (at-report e x xs (receive e x) refl q) (record { calls = simp q; answers = simp q })

pub first-then-rest : FirstThenRest
unfolding read_on receives not_quiet
first-then-rest e [] = record { calls = refl; answers = refl }
first-then-rest e (x ∷ xs) = goes_on e x xs (is_quiet (receive e x).report) refl (first-then-rest (receive e x).after xs)

pub received-append : (e : ReceiverEnd) (xs ys : List ℕ) → received e (xs ++ ys) ≡ received (received e xs) ys
unfolding received
received-append e [] ys = refl
received-append e (x ∷ xs) ys = received-append (receive e x).after xs ys

receives-append : (e : ReceiverEnd) (xs ys : List ℕ) → receives e (xs ++ ys) ≡ receives e xs ++ receives (received e xs) ys
unfolding received receives
receives-append e [] ys = refl
receives-append e (x ∷ xs) ys = ap (λ (l : List Receive). receive e x ∷ l) (receives-append (receive e x).after xs ys)

not-quiet-cons : (h : Receive) (hs ks : List Receive) (b : Bool) → is_quiet h.report ≡ b → not_quiet (hs ++ ks) ≡ not_quiet hs ++ not_quiet ks
    → not_quiet (h ∷ hs ++ ks) ≡ not_quiet (h ∷ hs) ++ not_quiet ks
unfolding not_quiet
not-quiet-cons h hs ks true q p = simp q p
not-quiet-cons h hs ks false q p = simp (q, p)

not-quiet-append : (hs ks : List Receive) → not_quiet (hs ++ ks) ≡ not_quiet hs ++ not_quiet ks
unfolding not_quiet
not-quiet-append [] ks = refl
not-quiet-append (h ∷ hs) ks = not-quiet-cons h hs ks (is_quiet h.report) refl (not-quiet-append hs ks)

cut : (e : ReceiverEnd) (xs ys : List ℕ) → not_quiet_calls e (xs ++ ys) ≡ not_quiet_calls e xs ++ not_quiet_calls (received e xs) ys
cut e xs ys = ap not_quiet (receives-append e xs ys) ∙ not-quiet-append _ _

pub cuts : StretchesJoin
cuts e xs ys =
    record { calls = cut e xs ys; answers = ap answers_of (cut e xs ys) ∙ map-append _ (not_quiet_calls e xs) (not_quiet_calls (received e xs) ys) }

-- ---- a program that reads a line in stretches

-- a stretch read on from where a reading stopped ends where the calls for all of it end
pub goes_through : (e : ReceiverEnd) (xs : List ℕ) (r : Reach) → Reading e xs r → received r.after (drop r.used xs) ≡ received e xs
goes_through e xs r k = rw (k.after, ← received-append, take-append-drop)

-- the report of a reading, and those of the calls that go on from where it stopped
pub told : (e : ReceiverEnd) (xs : List ℕ) (r : Reach) (b : Bool) → is_quiet r.report ≡ b → Reading e xs r → GoesOn e xs r
    → (if is_quiet r.report then not_quiet_calls r.after (drop r.used xs) else last_call r ∷ not_quiet_calls r.after (drop r.used xs)) ≡ not_quiet_calls e xs
unfolding receives not_quiet
told e xs r true q k g =
    let l : length xs ≤ r.used = omega (arith, k.all q) in
    simp (q, drop_of_length-le xs l) (sym (simp q at g.calls))
told e xs r false q k g = simp q (sym (simp q at g.calls))

alike : {hs ks : List Receive} {e f : ReceiverEnd} → hs ≡ ks → e ≡ f → ◌≡◌ {A = StretchCalls} (record { calls = hs; after = e }) (record { calls = ks; after = f })
alike p q = cc

stretch : (n : ℕ) (e : ReceiverEnd) (xs : List ℕ) → length xs ≤ n → read_stretch n e xs ≡ record { calls = not_quiet_calls e xs; after = received e xs }
unfolding read_stretch receives received not_quiet
stretch zero e [] l = refl
stretch zero e (x ∷ xs) l = absurd (omega arith)
stretch (suc n) e [] l = refl
stretch (suc n) e (x ∷ xs) l =
    let r = read_on e (x ∷ xs) in
    let k = as-the-calls e (x ∷ xs) in
    let s : length (drop r.used (x ∷ xs)) ≤ n = simp length-drop (omega (arith, k.least (omega arith))) in
    let c = told e (x ∷ xs) r (is_quiet r.report) refl k (first-then-rest e (x ∷ xs)) in
    rw (stretch n r.after (drop r.used (x ∷ xs)) s) (alike c (goes_through e (x ∷ xs) r k))

pub all-reported : AllReported
unfolding read_stretches receives received not_quiet flatten
all-reported e [] = refl
all-reported e (xs ∷ xss) =
    let k = all-reported (received e xs) xss in
    rw (stretch (length xs) e xs (omega arith))
    (alike (ap (λ (t : StretchCalls). not_quiet_calls e xs ++ t.calls) k ∙ sym (cut e xs (flatten xss))) (ap (λ (t : StretchCalls). t.after) k ∙ sym (received-append e xs (flatten xss))))
