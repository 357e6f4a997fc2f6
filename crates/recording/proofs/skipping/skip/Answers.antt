use Rattle.std.proofs.Common.{◌≡◌, ◌<◌, [], sym, subst, ◌∙◌, rules}
use Rattle.recording.specs.declared.ends.FillEnd.TheVariants.{Ended, Torn}
use Rattle.recording.proofs.Pieces.{whole_end, torn_end}
use Rattle.recording.proofs.Skipped.{Skipped, skips_all, skips_to_end}
use Rattle.recording.proofs.skipping.skip.Goals as goal

pub returns-in-Ok-eq0 : goal.returns-in-Ok-eq0
returns-in-Ok-eq0 g c =
    let before = g.S.Source.left c.args.src.now in
    let left = g.S.Source.left c.loop-skipped.src in
    let after = g.S.Source.left c.skip.new.self in
    let n = c.loop-skipped.skipped in
    let part = c.loop-skipped.part in
    let some : n < c.args.n = search rules in
    record {
      taken = λ told.
          let none : left ≡ [] = search rules in
          let same : after ≡ left = search rules in
          let so_far = subst (λ l. Skipped before l n part) (sym same) (c.loop-skipped.invariant.so_far told) in
          skips_to_end before after n part c.args.n (search rules) so_far Ended some (same ∙ none) (whole_end part (search rules));
      within = search rules;
      full = search rules;
      cause = search rules;
      last = search rules;
      steady = search rules;
      later = search rules;
      number = search rules;
    }

pub returns-in-Ok-eq0-2 : goal.returns-in-Ok-eq0-2
returns-in-Ok-eq0-2 g c =
    let before = g.S.Source.left c.args.src.now in
    let left = g.S.Source.left c.loop-skipped.src in
    let after = g.S.Source.left c.skip.new.self in
    let n = c.loop-skipped.skipped in
    let part = c.loop-skipped.part in
    let some : n < c.args.n = search rules in
    record {
      taken = λ told.
          let none : left ≡ [] = search rules in
          let same : after ≡ left = search rules in
          let so_far = subst (λ l. Skipped before l n part) (sym same) (c.loop-skipped.invariant.so_far told) in
          skips_to_end before after n part c.args.n (search rules) so_far (Torn part) some (same ∙ none) (torn_end part (search rules));
      within = search rules;
      full = search rules;
      cause = search rules;
      last = search rules;
      steady = search rules;
      later = search rules;
      number = search rules;
    }

pub returns : goal.returns
returns g c =
    let n = c.loop-skipped.skipped in
    let all : n ≡ c.args.n = search rules in
    record {
      taken = λ told.
          skips_all _ _ n c.loop-skipped.part c.args.n (search rules) (c.loop-skipped.invariant.so_far told) all c.loop-skipped.invariant.fits;
      within = search rules;
      full = search rules;
      cause = search rules;
      last = search rules;
      steady = search rules;
      later = search rules;
      number = search rules;
    }
