-- What a segment stands for, after one sample more and after a joint.
use Rattle.std.proofs.Common.{◌≡◌, ℕ, ℤ, ◌+◌, cond, List, [], ◌∷◌, ◌++◌, length, sym, ap, ◌∙◌, subst, arith, length-append, append-nil}
use Rattle.std.specs.List.{cons_option}
use Rattle.std.proofs.lemmas.List.Sums.{sum_by-cons}
use Rattle.calibration.specs.Gain.{GainValue}
use Rattle.calibration.specs.Grid.{GridValue}
use Rattle.calibration.specs.Level.{reading_of}
use Rattle.calibration.specs.History.{history, level_in, is_missing_reading, is_refused_reading, missing_count, refused_count}
use Rattle.calibration.specs.declared.reading.Reading.{Reading}
use Rattle.calibration.specs.declared.reading.Reading.TheVariants.{Missing, Refused, Level}
use Rattle.calibration.proofs.History.{history-append, missing_count-append, refused_count-append}
use Rattle.segment.specs.Segment.{SegmentValue, Stands, StandsFor}

-- one sample, by its reading
pub one_history : (grid : GridValue) (gain : GainValue) (raw : ℤ) (r : Reading) → reading_of gain grid raw ≡ r →
    history grid gain (raw ∷ []) ≡ cons_option (level_in r) []
one_history grid gain raw r e = ap (λ k. cons_option (level_in k) []) e

pub one_missing : (grid : GridValue) (gain : GainValue) (raw : ℤ) (r : Reading) → reading_of gain grid raw ≡ r →
    missing_count grid gain (raw ∷ []) ≡ cond (is_missing_reading r) 1 0
one_missing grid gain raw r e = let p = λ (x : ℤ). is_missing_reading (reading_of gain grid x) in
    omega (arith, sum_by-cons (λ x. cond (p x) 1 0) raw [], ap {B = ℕ} (λ k. cond (is_missing_reading k) 1 0) e)

pub one_refused : (grid : GridValue) (gain : GainValue) (raw : ℤ) (r : Reading) → reading_of gain grid raw ≡ r →
    refused_count grid gain (raw ∷ []) ≡ cond (is_refused_reading r) 1 0
one_refused grid gain raw r e = let p = λ (x : ℤ). is_refused_reading (reading_of gain grid x) in
    omega (arith, sum_by-cons (λ x. cond (p x) 1 0) raw [], ap {B = ℕ} (λ k. cond (is_refused_reading k) 1 0) e)

module _ (v : SegmentValue) (gain : GainValue) (raw : ℤ) (w : List ℤ) (a : Stands v gain w) where
  pub stands_missing : reading_of gain v.grid raw ≡ Missing →
      Stands (record v { missing = v.missing + 1; to = v.to + 1 }) gain (w ++ (raw ∷ []))
  stands_missing e = record {
    span = omega (arith, a.span, length-append w (raw ∷ []));
    missing = omega (arith, a.missing, missing_count-append v.grid gain w (raw ∷ []), one_missing v.grid gain raw Missing e);
    refused = omega (arith, a.refused, refused_count-append v.grid gain w (raw ∷ []), one_refused v.grid gain raw Missing e);
    history = subst (StandsFor (record v { missing = v.missing + 1; to = v.to + 1 }))
        (sym (history-append v.grid gain w (raw ∷ []) ∙ ap (λ h. history v.grid gain w ++ h) (one_history v.grid gain raw Missing e)
        ∙ append-nil (history v.grid gain w))) (record {
          used = a.history.used;
          result = a.history.result;
          crossings = a.history.crossings;
          simple = a.history.simple;
        });
  }

  pub stands_refused : reading_of gain v.grid raw ≡ Refused →
      Stands (record v { refused = v.refused + 1; to = v.to + 1 }) gain (w ++ (raw ∷ []))
  stands_refused e = record {
    span = omega (arith, a.span, length-append w (raw ∷ []));
    missing = omega (arith, a.missing, missing_count-append v.grid gain w (raw ∷ []), one_missing v.grid gain raw Refused e);
    refused = omega (arith, a.refused, refused_count-append v.grid gain w (raw ∷ []), one_refused v.grid gain raw Refused e);
    history = subst (StandsFor (record v { refused = v.refused + 1; to = v.to + 1 }))
        (sym (history-append v.grid gain w (raw ∷ []) ∙ ap (λ h. history v.grid gain w ++ h) (one_history v.grid gain raw Refused e)
        ∙ append-nil (history v.grid gain w))) (record {
          used = a.history.used;
          result = a.history.result;
          crossings = a.history.crossings;
          simple = a.history.simple;
        });
  }

  pub stands_level : (x : SegmentValue) (l : ℕ) → reading_of gain v.grid raw ≡ Level l → x.grid ≡ v.grid → x.from ≡ v.from →
      x.to ≡ v.to + 1 → x.missing ≡ v.missing → x.refused ≡ v.refused →
      (StandsFor v (history v.grid gain w) → StandsFor x (history v.grid gain w ++ (l ∷ []))) → Stands x gain (w ++ (raw ∷ []))
  stands_level x l e n p q r s f = record {
    span = omega (arith, a.span, length-append w (raw ∷ []));
    missing = omega (
      arith,
      a.missing,
      missing_count-append v.grid gain w (raw ∷ []),
      one_missing v.grid gain raw (Level l) e,
      ap (λ g. missing_count g gain (w ++ (raw ∷ []))) n,
    );
    refused = omega (
      arith,
      a.refused,
      refused_count-append v.grid gain w (raw ∷ []),
      one_refused v.grid gain raw (Level l) e,
      ap (λ g. refused_count g gain (w ++ (raw ∷ []))) n,
    );
    history = subst (StandsFor x) (sym (ap (λ g. history g gain (w ++ (raw ∷ []))) n ∙ history-append v.grid gain w (raw ∷ [])
        ∙ ap (λ h. history v.grid gain w ++ h) (one_history v.grid gain raw (Level l) e))) (f a.history);
  }

pub stands_append : (v w x : SegmentValue) (gain : GainValue) (g h : List ℤ) → Stands v gain g → Stands w gain h → v.grid ≡ w.grid →
    v.to ≡ w.from → x.grid ≡ v.grid → x.from ≡ v.from → x.to ≡ w.to → x.missing ≡ v.missing + w.missing →
    x.refused ≡ v.refused + w.refused → (StandsFor v (history v.grid gain g) → StandsFor w (history w.grid gain h) →
    StandsFor x (history v.grid gain g ++ history w.grid gain h)) → Stands x gain (g ++ h)
stands_append v w x gain g h a b e n o p q r s f = record {
  span = omega (arith, a.span, b.span, length-append g h);
  missing = omega (
    arith,
    a.missing,
    b.missing,
    missing_count-append v.grid gain g h,
    ap (λ k. missing_count k gain (g ++ h)) o,
    ap (λ k. missing_count k gain h) e,
  );
  refused = omega (
    arith,
    a.refused,
    b.refused,
    refused_count-append v.grid gain g h,
    ap (λ k. refused_count k gain (g ++ h)) o,
    ap (λ k. refused_count k gain h) e,
  );
  history = subst (StandsFor x) (sym (ap (λ k. history k gain (g ++ h)) o ∙ history-append v.grid gain g h
      ∙ ap (λ k. history v.grid gain g ++ history k gain h) e)) (f a.history b.history);
}

pub block_stands : (x : SegmentValue) (grid : GridValue) (gain : GainValue) (w : List ℤ) → x.grid ≡ grid → x.to ≡ x.from + length w →
    x.missing ≡ missing_count grid gain w → x.refused ≡ refused_count grid gain w → StandsFor x (history grid gain w) → Stands x gain w
block_stands x grid gain w e p m r s = record {
  span = p;
  missing = m ∙ ap (λ g. missing_count g gain w) (sym e);
  refused = r ∙ ap (λ g. refused_count g gain w) (sym e);
  history = subst (λ g. StandsFor x (history g gain w)) (sym e) s;
}
