-- A text that is printed piece by piece.
use Rattle.std.proofs.Common.{◌≡◌, ◌<◌, ◌≤◌, ℕ, ◌+◌, ◌-◌, List, [], ◌++◌, length, take, min, refl, sym, ap, ◌∙◌, subst, arith, append_assoc}
use Rattle.std.proofs.lemmas.List.{append-nil, take-append-le, take_min}
use Rattle.std.proofs.Math.Seq.{take-append-add}
use Rattle.outside.specs.Sink.{AppendsPrefix}
use Rattle.report.specs.Lines.{lines_from}
use Rattle.report.specs.Printed.{IsPrinted}
use Rattle.report.proofs.Written.{lines_from-first, lines_from-none}

pub printing_starts : (old whole : List ℕ) → IsPrinted old old whole whole
printing_starts old whole = record { front = []; written = sym (append-nil old); all = refl }

pub printed_more : (old now new whole piece rest : List ℕ) → IsPrinted old now whole (piece ++ rest) → new ≡ now ++ piece →
    IsPrinted old new whole rest
printed_more old now new whole piece rest p e = record {
  front = p.front ++ piece;
  written = e ∙ (ap (λ l. l ++ piece) p.written ∙ append_assoc old p.front piece);
  all = p.all ∙ sym (append_assoc p.front piece rest);
}

pub printed_whole : (old now whole : List ℕ) → IsPrinted old now whole [] → now ≡ old ++ whole
printed_whole old now whole p = p.written ∙ ap (λ l. old ++ l) (sym (p.all ∙ append-nil p.front))

-- a put that failed left a front of the whole
pub printed_front : (old now new whole piece rest : List ℕ) → IsPrinted old now whole (piece ++ rest) → AppendsPrefix now new piece
    → AppendsPrefix old new whole
printed_front old now new whole piece rest p (j, is) =
    let few = min j (length piece) in
    let cut : take (length p.front + few) whole ≡ p.front ++ take j piece =
    ap (take (length p.front + few)) p.all ∙ (take-append-add p.front (piece ++ rest) few
    ∙ ap (λ l. p.front ++ l) (take-append-le few piece rest (omega arith) ∙ take_min j piece)) in (
      length p.front + few,
      is ∙ (ap (λ l. l ++ take j piece) p.written ∙
          (append_assoc old p.front (take j piece) ∙ ap (λ l. old ++ l) (sym cut))),
    )

pub lines_start : (f : ℕ → List ℕ) (n : ℕ) (old : List ℕ) → IsPrinted old old (lines_from f 0 n) (lines_from f 0 (n - 0))
lines_start f n old =
    let e : n - 0 ≡ n = omega arith in
    subst (λ (m : ℕ). IsPrinted old old (lines_from f 0 n) (lines_from f 0 m)) (sym e) (printing_starts old (lines_from f 0 n))

-- one gauge more
pub lines_more : (f : ℕ → List ℕ) (k n : ℕ) (old now new whole : List ℕ) → k < n → IsPrinted old now whole (lines_from f k (n - k))
    → new ≡ now ++ f k → IsPrinted old new whole (lines_from f (k + 1) (n - (k + 1)))
lines_more f k n old now new whole lt p e =
    printed_more old now new whole (f k) (lines_from f (k + 1) (n - (k + 1)))
    (subst (IsPrinted old now whole) (lines_from-first f k n lt) p) e

pub lines_front : (f : ℕ → List ℕ) (k n : ℕ) (old now new whole : List ℕ) → k < n → IsPrinted old now whole (lines_from f k (n - k))
    → AppendsPrefix now new (f k) → AppendsPrefix old new whole
lines_front f k n old now new whole lt p e =
    printed_front old now new whole (f k) (lines_from f (k + 1) (n - (k + 1)))
    (subst (IsPrinted old now whole) (lines_from-first f k n lt) p) e

pub lines_whole : (f : ℕ → List ℕ) (k n : ℕ) (old now whole : List ℕ) → n ≤ k → IsPrinted old now whole (lines_from f k (n - k))
    → now ≡ old ++ whole
lines_whole f k n old now whole le p = printed_whole old now whole (subst (IsPrinted old now whole) (lines_from-none f k n le) p)
