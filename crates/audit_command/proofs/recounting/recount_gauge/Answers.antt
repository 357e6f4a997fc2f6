use Rattle.std.proofs.Common.{ℕ, List, [], ◌∷◌, sym, ◌∙◌, ap, arith, slice_index}
use Rattle.std.specs.Prelude.{Option, Some}
use Rattle.recording.specs.Samples.{samples}
use Rattle.segment.specs.declared.segment_rules.name.Name.{Name}
use Rattle.segment_store.specs.Held.{ends_of}
use Rattle.site_config.specs.Valid.{file_of}
use Rattle.store_bytes.specs.store_head.Head.{HeadValue}
use Rattle.site_config.specs.recorded.Recorded.{body_in, recordings}
use Rattle.site_config.proofs.on_recorded.Asking.{asks_file, file_is}
use Rattle.audit_command.proofs.Opened.{gauge_answers}
use Rattle.audit_command.proofs.Recounts.{gain_is, recounted_first}
use Rattle.audit_command.proofs.recounting.recount_gauge.Goals as goal
use Rattle.outside.proofs.Asked.{asks_no_more}

pub recount_source-answer-requires-clause-few : goal.recount_source-answer-requires-clause-few
recount_source-answer-requires-clause-few g c κs within =
    omega (arith, ap (λ (x : Name). x.to) c.name.ensures.value, c.name.ensures.rules.span.1)

pub returns-clause-answer : goal.returns-clause-answer
returns-clause-answer g c = λ shows.
    gauge_answers c.args.config.now c.args.store.now.head.heads (slice_index (ends_of c.args.store.now.held))
    (g.T.Site.files c.args.site.now) c.args.gauge
    (omega (arith, c.requires.known, c.requires.heads)) _ _ (c.in-Ok.ensures.file shows)
    (file_is c.args.config.now c.args.gauge _ _ _ c.requires.known c.as_slice.ensures c.as_str-name.ensures) c.as_slice-2.result.now _ _
    (c.as_slice-2.ensures ∙ ap (λ (h : HeadValue). h.heads) c.head.ensures)
    (ap (λ (x : Name). x.to) c.name.ensures.value ∙ c.held.ensures.end)
    c.recount_source-answer.result (c.recount_source-answer.ensures.answer (c.in-Ok.ensures.source_tells shows))

pub returns-clause-counted : goal.returns-clause-counted
returns-clause-counted g c =
    let files = g.T.Site.files c.args.site.now in
    recounted_first c.args.config.now g.T.Site.tells g.T.Src.Source.tells
    (recordings c.args.config.now (g.T.Site.files c.args.site.now)).samples
    (slice_index (ends_of c.args.store.now.held)) c.args.gauge _ (samples (body_in (Some (g.T.Src.Source.left c.in-Ok.src))))
    c.name.result.to
    c.recount_source-answer.result
    (gain_is c.args.config.now c.args.gauge c.as_slice-3.result.now c.index-as_slice-gauge-2.result
    (omega (arith, c.requires.known, c.requires.config.gains))
    c.as_slice-3.ensures c.index-as_slice-gauge-2.is) (ap (λ (x : Name). x.to) c.name.ensures.value ∙ c.held.ensures.end)
    c.in-Ok.ensures.source_tells
    (λ shows. ap (λ (o : Option (List ℕ)). samples (body_in o)) (sym (ap files
    (file_is c.args.config.now c.args.gauge _ _ _ c.requires.known c.as_slice.ensures c.as_str-name.ensures) ∙ c.in-Ok.ensures.file shows)))
    c.recount_source-answer.ensures.counted

pub returns-in-Err-clause-asked : goal.returns-in-Err-clause-asked
returns-in-Err-clause-asked g c =
    asks_file c.args.config.now c.args.gauge _ _ _ c.requires.known c.as_slice.ensures c.as_str-name.ensures
    (g.T.Site.names_asked c.args.site.now) (g.T.Site.names_asked c.fetch.new.self) c.fetch.ensures.asked

pub returns-clause-asked : goal.returns-clause-asked
returns-clause-asked g c =
    let asked = g.T.Site.names_asked in
    asks_no_more (asked c.args.site.now) (asked c.fetch.new.self) (asked c.give_back.new.self) (file_of c.args.config.now c.args.gauge ∷ [])
    (asks_file c.args.config.now c.args.gauge _ _ _ c.requires.known c.as_slice.ensures c.as_str-name.ensures (asked c.args.site.now)
    (asked c.fetch.new.self) c.fetch.ensures.asked) c.give_back.ensures.asked
