-- What was read means what the whole means.
use Rattle.std.proofs.Common.{◌≡◌, ◌≤◌, ◌+◌, ◌⊎◌, inl, inr, [], length, subst, ◌∙◌}
use Rattle.std.specs.Prelude.{Result}
use Rattle.site_config.specs.declared.config.Config.{Config}
use Rattle.site_config.specs.declared.fault.ConfigFault.{ConfigFault}
use Rattle.site_config.specs.declared.limits.TheConstants.{MAX_BYTES}
use Rattle.status.specs.config_reading.Reading.{IsFront, MeansAs}
use Rattle.status.proofs.on_config_reading.Fronts.{front_of, meaning_front}
use Rattle.status.proofs.config_reading.reading.read_front.Goals as goal

pub returns-in-Full : goal.returns-in-Full
returns-in-Full g c =
    let n = c.take_all-taken.result.n in
    let took = c.take_all-taken.ensures in
    let bytes = c.take_all-taken.new.bytes in
    let before = g.C.Source.left c.args.config.now in
    let after = g.C.Source.left c.take_all-taken.new.src in
    let long : length bytes ≡ MAX_BYTES + 1 = took.length ∙ c.requires.room in
    record {
      meaning = λ tells.
          (let end : (n ≡ MAX_BYTES + 1) ⊎ (after ≡ []) = elim c.in-Full.is [
            | inl full ↦ inl (took.full.0 full ∙ c.requires.room)
            | inr ended ↦ inr (took.ended tells ended)
          ] in
          let front : IsFront n bytes (MAX_BYTES + 1) before = front_of n (MAX_BYTES + 1) bytes before after long
          (subst (λ k. n ≤ k) c.requires.room took.within) (took.bytes tells) end in
          subst (λ (m : Result Config ConfigFault). MeansAs m c.meaning_of.result) (meaning_front n bytes before front)
          c.meaning_of.ensures.meaning);
      valid = c.meaning_of.ensures.valid;
      refusal = c.meaning_of.ensures.refusal;
      cause = λ e. absurd (c.meaning_of.ensures.no_read e);
      later = took.later;
    }
