-- A line written in pieces is the line of the sender's calls, and where a piece ends.
use mathlib.Core.Path.{◌≡◌, refl, sym, ap, ◌∙◌}
use mathlib.Core.List.{List, [], ◌∷◌, ◌++◌}
use Prim.Native.Nat.{ℕ, zero, suc}
use native.Mathlib.Omega.{arith}
use borrow.Author.Tests.{eqb-true, eqb-false}
use lib.Dec.{eqb}
use lib.ListN.{length, replicate}
use lib.Seq.{take-append_seam, drop-append_seam}
use Rattle.cobs.specs.CodeBlocks.{flag}
use Rattle.cobs.proofs.Tests.{branch}
use Rattle.link.specs.Answers.{Answer, done, octet, idle, quiet, packet, held, refused}
use Rattle.link.specs.declared.sender.Sender.{Sender}
use Rattle.link.specs.Sender.{SenderEnd, Out, closes, breaks_off, sends, sends_nothing, refuses, out_answer, next}
use Rattle.link.specs.Runs.{SenderCall, loading, next_octet, Station, after_load, after_next, run, Written, writes, written, written_octets}
use Rattle.writer.specs.Writing.{Wrote, writes_nothing, octet_first, by_answer, write_on}
use Rattle.writer.specs.Pieces.{ProgramStep, loads, piece, after_loading, after_piece, in_pieces, calls_of, HoweverCut, NoOctet, Ends, full, behind_flag, no_octet, Piece, WherePiecesEnd, OnTheLine}
use Rattle.writer.proofs.Steps.{with}

-- ---- the calls, by the sender and its areas alone

-- what a call writes, before what the later calls write
abbrev put : Answer → List ℕ → List ℕ
put (octet x) xs = x ∷ xs
put done xs = xs
put idle xs = xs
put quiet xs = xs
put (packet in_second n) xs = xs
put (held n replaced) xs = xs
put (refused n) xs = xs

-- the octets that calls write, and the sender with its areas after them
line_of : SenderEnd → List SenderCall → List ℕ
line_of e [] = []
line_of e (loading l p ∷ cs) = line_of (after_loading l p e) cs
line_of e (next_octet ∷ cs) = put (out_answer (next e).out) (line_of (with (next e).state e) cs)

end_of : SenderEnd → List SenderCall → SenderEnd
end_of e [] = e
end_of e (loading l p ∷ cs) = end_of (after_loading l p e) cs
end_of e (next_octet ∷ cs) = end_of (with (next e).state e) cs

-- what a call writes, by its answer
written-put : (o : Out) (w : Station) (es : List Written) → written_octets (writes o w es) ≡ put (out_answer o) (written_octets es)
written-put (closes l) w es = refl
written-put breaks_off w es = refl
written-put (sends l x) w es = refl
written-put sends_nothing w es = refl
written-put (refuses n) w es = refl

-- Of link's runs only these two know what is inside.
line-of : (w : Station) (cs : List SenderCall) → written_octets (written w cs) ≡ line_of w.end cs
unfolding written after_load after_next line_of
line-of w [] = refl
line-of w (loading l p ∷ cs) = line-of (after_load l p w) cs
line-of w (next_octet ∷ cs) = written-put (next w.end).out w _ ∙ ap (put (out_answer (next w.end).out)) (line-of _ cs)

end-of : (w : Station) (cs : List SenderCall) → (run w cs).end ≡ end_of w.end cs
unfolding run after_load after_next end_of
end-of w [] = refl
end-of w (loading l p ∷ cs) = end-of (after_load l p w) cs
end-of w (next_octet ∷ cs) = end-of _ cs

-- ---- a piece

-- as many calls of next octet, before others
abbrev calls : List ℕ → List SenderCall → List SenderCall
calls xs cs = replicate (length xs) next_octet ++ cs

-- The calls of a piece write its octets and leave its sender; then come others.
record Goes (e : SenderEnd) (r : Wrote) (cs : List SenderCall) : Type 0 where
  line : line_of e (calls r.octets cs) ≡ r.octets ++ line_of (after_piece r e) cs
  end : end_of e (calls r.octets cs) ≡ end_of (after_piece r e) cs

nothing : (e : SenderEnd) (cs : List SenderCall) → Goes e (writes_nothing e.state) cs
nothing e cs = record { line = refl; end = refl }

-- a call that answers an octet, before the rest
one-call : (e : SenderEnd) (cs : List SenderCall) (x : ℕ) (r : Wrote) → out_answer (next e).out ≡ octet x → Goes (with (next e).state e) r cs → Goes e (octet_first x r) cs
unfolding line_of end_of
one-call e cs x r q k = record { line = rw q (ap (λ (xs : List ℕ). x ∷ xs) k.line); end = k.end }

goes_by : (e : SenderEnd) (cs : List SenderCall) (a : Answer) (rest : Wrote) → out_answer (next e).out ≡ a → Goes (with (next e).state e) rest cs
    → Goes e (by_answer a e.state (next e).state rest) cs
goes_by e cs (octet x) rest q k =
    let e' = with (next e).state e in
    one-call e cs x _ q (branch (λ (r : Wrote). Goes e' r cs) (eqb x flag) (λ f. nothing e' cs) (λ f. k))
goes_by e cs done rest q k = nothing e cs
goes_by e cs idle rest q k = nothing e cs
goes_by e cs quiet rest q k = nothing e cs
goes_by e cs (packet in_second n) rest q k = nothing e cs
goes_by e cs (held n replaced) rest q k = nothing e cs
goes_by e cs (refused n) rest q k = nothing e cs

goes : (n : ℕ) (e : SenderEnd) (cs : List SenderCall) → Goes e (write_on n e) cs
unfolding write_on
goes zero e cs = nothing e cs
goes (suc n) e cs = goes_by e cs (out_answer (next e).out) _ refl (goes n (with (next e).state e) cs)

-- ---- however the line is cut

record Cut (e : SenderEnd) (steps : List ProgramStep) : Type 0 where
  line : (in_pieces e steps).octets ≡ line_of e (calls_of e steps)
  end : (in_pieces e steps).end ≡ end_of e (calls_of e steps)

cut : (e : SenderEnd) (steps : List ProgramStep) → Cut e steps
unfolding in_pieces calls_of line_of end_of
cut e [] = record { line = refl; end = refl }
cut e (loads l p ∷ steps) = let k = cut (after_loading l p e) steps in record { line = k.line; end = k.end }
cut e (piece n ∷ steps) =
    let k = cut (after_piece (write_on n e) e) steps in
    let g = goes n e (calls_of (after_piece (write_on n e) e) steps) in
    record { line = ap (λ (xs : List ℕ). (write_on n e).octets ++ xs) k.line ∙ sym g.line; end = k.end ∙ sym g.end }

pub however-cut : HoweverCut
however-cut w steps =
    let k = cut w.end steps in
    let cs = calls_of w.end steps in
    record { octets = k.line ∙ sym (line-of w cs); end = k.end ∙ sym (end-of w cs) }

-- ---- where a piece ends

-- a flag that the octets of a piece hold is their last: of no octets, and of an octet before others
no_flag : (xs ys : List ℕ) → [] ≡ xs ++ flag ∷ ys → ys ≡ []
no_flag [] ys p = cc
no_flag (x ∷ xs) ys p = cc

one-flag : (x : ℕ) (os xs ys : List ℕ) → (x ≡ flag → os ≡ []) → ((zs : List ℕ) → os ≡ zs ++ flag ∷ ys → ys ≡ []) → x ∷ os ≡ xs ++ flag ∷ ys → ys ≡ []
one-flag x os [] ys f k p = let z : x ≡ flag = cc in let q : os ≡ ys = cc in sym q ∙ f z
one-flag x os (z ∷ zs) ys f k p = k zs (cc)

-- a call that writes nothing
stops_at : (n : ℕ) (e : SenderEnd) (a : Answer) → out_answer (next e).out ≡ a → put a [] ≡ [] → Piece (suc n) e (writes_nothing e.state)
stops_at n e a q f =
    record { ends = no_octet no; most = omega arith; nothing_behind = no_flag; least = λ l x p. absurd (no x p) }
  where
    no : NoOctet e
    no x p =
        let r : x ∷ [] ≡ [] = ap (λ (b : Answer). put b []) (sym p ∙ q) ∙ f in
        absurd (let z : ◌≡◌ {A = ℕ} 0 1 = cc in omega arith)

-- a flag
flag-last : (n : ℕ) (e : SenderEnd) (x : ℕ) (t : Sender) → x ≡ flag → Piece (suc n) e (octet_first x (writes_nothing t))
flag-last n e x t f =
    record {
      ends = behind_flag [] (ap (λ (y : ℕ). y ∷ []) f);
      most = omega arith;
      nothing_behind = λ xs ys. one-flag x [] xs ys (λ _. refl) (λ zs. no_flag zs ys);
      least = λ l y p. omega arith;
    }

-- another octet, before the rest
octet-before : (n : ℕ) (e : SenderEnd) (x : ℕ) (t : Sender) (r : Wrote) → (x ≡ flag → ⊥) → Piece n (with t e) r → Piece (suc n) e (octet_first x r)
octet-before n e x t r f k =
    record {
      ends = later k.ends;
      most = omega (arith, k.most);
      nothing_behind = λ xs ys. one-flag x r.octets xs ys (λ z. absurd (f z)) (λ zs. k.nothing_behind zs ys);
      least = λ l y p. omega arith;
    }
  where
    later : Ends n (with t e) r → Ends (suc n) e (octet_first x r)
    later (full p) = full (ap suc p)
    later (behind_flag xs p) = behind_flag (x ∷ xs) (ap (λ (os : List ℕ). x ∷ os) p)
    later (no_octet h) = no_octet h

ends_by : (n : ℕ) (e : SenderEnd) (a : Answer) (rest : Wrote) → out_answer (next e).out ≡ a → Piece n (with (next e).state e) rest
    → Piece (suc n) e (by_answer a e.state (next e).state rest)
ends_by n e (octet x) rest q k =
    branch (λ (r : Wrote). Piece (suc n) e (octet_first x r)) (eqb x flag)
    (λ f. flag-last n e x _ (eqb-true x flag f))
    (λ f. octet-before n e x _ rest (eqb-false x flag f) k)
ends_by n e done rest q k = stops_at n e done q refl
ends_by n e idle rest q k = stops_at n e idle q refl
ends_by n e quiet rest q k = stops_at n e quiet q refl
ends_by n e (packet in_second m) rest q k = stops_at n e (packet in_second m) q refl
ends_by n e (held m replaced) rest q k = stops_at n e (held m replaced) q refl
ends_by n e (refused m) rest q k = stops_at n e (refused m) q refl

pub where-pieces-end : WherePiecesEnd
unfolding write_on
where-pieces-end zero e = record { ends = full refl; most = omega arith; nothing_behind = no_flag; least = λ l x p. absurd (omega arith) }
where-pieces-end (suc n) e = ends_by n e (out_answer (next e).out) _ refl (where-pieces-end n (with (next e).state e))

-- ---- on the line that was lent

pub on-the-line : OnTheLine
on-the-line line e =
    let xs = (write_on (length line) e).octets in
    record { octets = take-append_seam xs _; behind = drop-append_seam xs _; state = refl }
