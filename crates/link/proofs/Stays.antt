-- The settings and the map stay, and what becomes of the mode.
use mathlib.Core.Path.{◌≡◌, refl, sym, ap, ◌∙◌}
use mathlib.Core.Bool.{true, false, not, ◌&&◌, ◌||◌, and-false}
use mathlib.Core.List.{List, [], ◌∷◌}
use Prim.Native.Nat.{ℕ}
use lib.Dec.{ltb, eqb}
use lib.ListN.{length}
use Rattle.std.specs.Prelude.{if◌then◌else◌, Some, None}
use Rattle.cobs.specs.CodeBlocks.{flag, from_line}
use Rattle.cobs.proofs.Tests.{branch, decide}
use Rattle.link.specs.Agreed.{Settings, Agreed, agreed, valid, most_decoded}
use Rattle.link.specs.Answers.{refused}
use Rattle.link.specs.Receiver.{Mode, kept_off, cobs, plain, escape_open, PlainReading, Receiver, Working, Ended, ReceiverEnd, Receive, escape_over, is_off, is_plain, in_bounds, begin_plain, at_plain_flag, begins_plain, work, aside, receive_cobs, receive_plain, receive}
use Rattle.link.specs.ReceiverParts.{ReceiverReady}
use Rattle.link.specs.EachCall.{ModeStays}
use Rattle.link.specs.Runs.{received}
use Rattle.link.specs.Demands.{fresh_receiver}
use Rattle.link.proofs.Tests.{if-so, if-not, true-false}
use Rattle.link.proofs.Cobs.{cobs_receive, begins, in-cobs}
use Rattle.link.proofs.Remembers.{octet-agrees, AgreesOver, end-over, whole-over, flag-agrees}
use Rattle.link.proofs.PlainCases.{by-octet, by-begin, by-plain-flag}

-- a flag begins no plain reading
pub flag-begins : (r : Receiver) → begins_plain r flag ≡ false
flag-begins r = and-false (not (is_off r.mode) && not r.framed)

-- ---- what stays

-- the settings and the map
abbrev Same : Receiver → Receiver → Type 0
Same r s = (s.settings ≡ r.settings) × (s.map ≡ r.map)

-- of one call, that is not refused: by each way of reading
by_call : (P : Receiver → Type 0) (e : ReceiverEnd) (x : ℕ) → P e.state
    → (is_plain e.state.mode ≡ true → P (receive_plain (agreed e.state.settings) e x).after.state)
    → (is_plain e.state.mode ≡ false → begins_plain e.state x ≡ true → P (begin_plain (agreed e.state.settings) (work e)).state)
    → (is_plain e.state.mode ≡ false → begins_plain e.state x ≡ false → P (receive_cobs (agreed e.state.settings) e x).after.state)
    → P (receive e x).after.state
unfolding receive
by_call P e x same ppp new cbs =
    let g = agreed e.state.settings in
    let Q : Receive → Type 0 = λ h. P h.after.state in
    branch Q (not (valid g)) (λ _. same)
    (λ _. branch Q (ltb (length e.first) (most_decoded g) || ltb (length e.second) (most_decoded g)) (λ _. same)
    (λ _. branch Q (not (in_bounds g e.state)) (λ _. same)
    (λ _. branch Q (is_plain e.state.mode) ppp (λ p. branch Q (begins_plain e.state x) (new p) (cbs p)))))

-- a flag in plain PPP
plain-flag-over : (g : Agreed) (r : Receiver) (area : List ℕ) (P : Receiver → Type 0) → P r → ((s : Receiver) → AgreesOver r s → P s) → P (at_plain_flag g r area).state
plain-flag-over g r area P same f =
    by-plain-flag g (λ (t : Ended). P t.state) r area (λ _. same)
    (λ _ _. f _ (end-over (refused r.refusal) r))
    (λ _. f _ (end-over (refused 10) r))
    (λ _. f _ (end-over (refused 18) r))
    (λ _ _. f _ (whole-over g r area r.decoded))

receive-same : (e : ReceiverEnd) (x : ℕ) → Same e.state (receive e x).after.state
receive-same e x =
    let g = agreed e.state.settings in
    let P : Receive → Type 0 = λ h. Same e.state h.after.state in
    by_call (Same e.state) e x (refl, refl)
    (λ _. branch P (eqb x flag) (λ _. plain-flag-over g e.state (work e).area (Same e.state) (refl, refl) (λ s k. (k.0, k.2)))
    (λ _. by-octet g (λ (w : Working). Same e.state w.state) (work e) x (refl, refl) (λ _. (refl, refl)) (λ _ _. (refl, refl)) (λ _ _ _. (refl, refl))))
    (λ _ _. by-begin g (λ (w : Working). Same e.state w.state) (work e) (λ _. (refl, refl)) (λ _. (refl, refl)))
    (λ p _. branch P (eqb x flag) (λ _. let k = flag-agrees g e.state (work e).area p in (k.0, k.2))
    (λ _. let k = octet-agrees g (aside e) (work e) (from_line x) in (k.0, k.2)))

pub receive-settings : (e : ReceiverEnd) (x : ℕ) → (receive e x).after.state.settings ≡ e.state.settings
receive-settings e x = (receive-same e x).0

pub run-settings : (xs : List ℕ) (e : ReceiverEnd) → (received e xs).state.settings ≡ e.state.settings
unfolding received
run-settings [] e = refl
run-settings (x ∷ xs) e = run-settings xs (receive e x).after ∙ receive-settings e x

pub fresh-settings : (t : Settings) (reading : PlainReading) (a b : List ℕ) → (fresh_receiver t reading a b).state.settings ≡ t
fresh-settings t None a b = refl
fresh-settings t (Some map) a b = refl

-- ---- the mode

pub plain_over : (m : Mode) → is_plain m ≡ true → is_plain (escape_over m) ≡ true
plain_over kept_off p = p
plain_over cobs p = p
plain_over plain p = refl
plain_over escape_open p = refl

-- while COBS is read
cobs-same : (e : ReceiverEnd) (x : ℕ) → is_plain e.state.mode ≡ false → (receive_cobs (agreed e.state.settings) e x).after.state.mode ≡ e.state.mode
cobs-same e x p =
    let g = agreed e.state.settings in
    branch (λ (h : Receive). h.after.state.mode ≡ e.state.mode) (eqb x flag) (λ _. (flag-agrees g e.state (work e).area p).1)
    (λ _. (octet-agrees g (aside e) (work e) (from_line x)).1)

-- while plain PPP is
plain-same : (e : ReceiverEnd) (x : ℕ) → is_plain e.state.mode ≡ true → is_plain (receive_plain (agreed e.state.settings) e x).after.state.mode ≡ true
plain-same e x p =
    let g = agreed e.state.settings in
    let P : Receiver → Type 0 = λ r. is_plain r.mode ≡ true in
    branch (λ (h : Receive). P h.after.state) (eqb x flag)
    (λ _. plain-flag-over g e.state (work e).area P p (λ s k. ap is_plain k.1 ∙ plain_over e.state.mode p))
    (λ _. by-octet g (λ (w : Working). P w.state) (work e) x p (λ _. refl) (λ _ _. refl) (λ _ _ _. refl))

off-stays : (e : ReceiverEnd) (x : ℕ) → e.state.mode ≡ kept_off → (receive e x).after.state.mode ≡ kept_off
off-stays e x m =
    by_call (λ r. r.mode ≡ kept_off) e x m (λ p. true-false (sym p ∙ ap is_plain m)) (λ _ b. true-false (sym b ∙ ap (λ (k : Mode). not (is_off k) && not e.state.framed && eqb x 0xFF) m))
    (λ p _. cobs-same e x p ∙ m)

cobs-becomes : (e : ReceiverEnd) → ReceiverReady e → (x : ℕ) → e.state.mode ≡ cobs
    → (receive e x).after.state.mode ≡ (if begins_plain e.state x then plain else cobs)
unfolding cobs_receive
cobs-becomes e a x m =
    let p : is_plain e.state.mode ≡ false = ap is_plain m in
    decide (begins_plain e.state x)
    (λ b.
    ap (λ (h : Receive). h.after.state.mode) (begins e x a p b)
    ∙ (by-begin (agreed e.state.settings) (λ (w : Working). w.state.mode ≡ plain) (work e) (λ _. refl) (λ _. refl) ∙ sym (if-so _ _ _ b)))
    (λ b. ap (λ (h : Receive). h.after.state.mode) (in-cobs e x a p b) ∙ (cobs-same e x p ∙ (m ∙ sym (if-not _ _ _ b))))

plain-stays : (e : ReceiverEnd) (x : ℕ) → is_plain e.state.mode ≡ true → is_plain (receive e x).after.state.mode ≡ true
plain-stays e x p = by_call (λ r. is_plain r.mode ≡ true) e x p (plain-same e x) (λ q _. true-false (sym p ∙ q)) (λ q _. true-false (sym p ∙ q))

pub mode-stays : ModeStays
mode-stays = record { map = λ e x. (receive-same e x).1; off = off-stays; cobs = cobs-becomes; plain = plain-stays }
