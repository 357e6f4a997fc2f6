use Rattle.std.proofs.Common.{[], ◌∷◌, ◌∙◌, ap, arith}
use Rattle.std.specs.Prelude.{slice_index}
use Rattle.site_config.specs.Valid.{file_of}
use Rattle.segment.specs.declared.segment_rules.name.Name.{Name}
use Rattle.segment_store.specs.Held.{ends_of}
use Rattle.store_bytes.specs.store_head.Head.{HeadValue}
use Rattle.count_workers.specs.declared.lane_loans.lane.Lane.{Lane}
use Rattle.site_config.proofs.on_recorded.Asking.{asks_file, file_is}
use Rattle.site_lanes.proofs.Asking.{opened_own}
use Rattle.site_lanes.proofs.Opened.{gauge_fault, gauge_refused}
use Rattle.site_lanes.proofs.lanes.open_lane.Goals as goal
use Rattle.outside.proofs.Asked.{asks_no_more}

pub returns-in-Ok-open_recording-clause-answer : goal.returns-in-Ok-open_recording-clause-answer
returns-in-Ok-open_recording-clause-answer g c = λ shows.
    gauge_fault c.args.config.now c.args.store.now.head.heads (slice_index (ends_of c.args.store.now.held)) (g.T.Site.files c.args.site.now)
    c.args.gauge (omega (arith, c.requires.known, c.requires.heads)) _ _ (c.in-Ok.ensures.file shows)
    (file_is c.args.config.now c.args.gauge _ _ _ c.requires.known c.as_slice.ensures c.as_str-name.ensures) c.as_slice-2.result.now _ _
    (c.as_slice-2.ensures ∙ ap (λ (h : HeadValue). h.heads) c.head.ensures)
    (ap (λ (x : Name). x.to) c.name-held.ensures.value ∙ c.held.ensures.end) _
    (c.in-Ok-open_recording.ensures.answer (c.in-Ok.ensures.source_tells shows))

pub returns-in-Err-open_recording-clause-answer : goal.returns-in-Err-open_recording-clause-answer
returns-in-Err-open_recording-clause-answer g c = λ shows.
    gauge_refused c.args.config.now c.args.store.now.head.heads (slice_index (ends_of c.args.store.now.held))
    (g.T.Site.files c.args.site.now)
    c.args.gauge (omega (arith, c.requires.known, c.requires.heads)) _ _ (c.in-Ok.ensures.file shows)
    (file_is c.args.config.now c.args.gauge _ _ _ c.requires.known c.as_slice.ensures c.as_str-name.ensures) c.as_slice-2.result.now _ _
    (c.as_slice-2.ensures ∙ ap (λ (h : HeadValue). h.heads) c.head.ensures)
    (ap (λ (x : Name). x.to) c.name-held.ensures.value ∙ c.held.ensures.end) (Lane g.row.T-Src.Denot) c.in-Err-open_recording.fault _
    c.opened_status.ensures (c.in-Err-open_recording.ensures.answer (c.in-Ok.ensures.source_tells shows))

pub returns-in-Err-open_recording-clause-own : goal.returns-in-Err-open_recording-clause-own
returns-in-Err-open_recording-clause-own g c =
    opened_own c.args.gauge c.in-Err-open_recording.fault c.opened_status.result c.opened_status.ensures

pub returns-in-Err-clause-asked : goal.returns-in-Err-clause-asked
returns-in-Err-clause-asked g c =
    asks_file c.args.config.now c.args.gauge _ _ _ c.requires.known c.as_slice.ensures c.as_str-name.ensures
    (g.T.Site.names_asked c.args.site.now) (g.T.Site.names_asked c.fetch.new.self) c.fetch.ensures.asked

pub returns-in-Ok-open_recording-clause-asked : goal.returns-in-Ok-open_recording-clause-asked
returns-in-Ok-open_recording-clause-asked g c =
    asks_file c.args.config.now c.args.gauge _ _ _ c.requires.known c.as_slice.ensures c.as_str-name.ensures
    (g.T.Site.names_asked c.args.site.now) (g.T.Site.names_asked c.fetch.new.self) c.fetch.ensures.asked

pub returns-in-Err-open_recording-clause-asked : goal.returns-in-Err-open_recording-clause-asked
returns-in-Err-open_recording-clause-asked g c =
    let asked = g.T.Site.names_asked in
    asks_no_more (asked c.args.site.now) (asked c.fetch.new.self) (asked c.give_back.new.self) (file_of c.args.config.now c.args.gauge ∷ [])
    (asks_file c.args.config.now c.args.gauge _ _ _ c.requires.known c.as_slice.ensures c.as_str-name.ensures (asked c.args.site.now)
    (asked c.fetch.new.self) c.fetch.ensures.asked) c.give_back.ensures.asked
