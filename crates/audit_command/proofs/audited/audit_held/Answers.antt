use Rattle.std.proofs.Common.{List, sym, subst, slice_index}
use Rattle.recount.specs.declared.count.Recount.{Recount}
use Rattle.segment_store.specs.Held.{ends_of}
use Rattle.site_config.specs.recorded.Recorded.{recordings}
use Rattle.segment_store.specs.Holds.{held_of}
use Rattle.audit_command.specs.Audited.{IsItem}
use Rattle.audit_command.specs.Recounted.{AreOf, AreOver}
use Rattle.site_config.specs.recorded.Asked.{file_names}
use Rattle.audit_command.proofs.Asking.{recounting_asks, other_asks}
use Rattle.audit_command.proofs.Ended.{recounting_answers, recounting_unprinted, recounting_kind, recounting_no_write, other_answers, other_unprinted, other_kind, other_no_fault}
use Rattle.audit_command.proofs.Recounts.{are_of, are_over}
use Rattle.audit_command.proofs.audited.audit_held.Goals as goal

pub first_other-requires-clause-classes : goal.first_other-requires-clause-classes
first_other-requires-clause-classes g c =
    subst (AreOver c.args.config.now) (sym c.deref.ensures.value) (are_over c.args.config.now g.T.Site.tells
    (recordings c.args.config.now (g.T.Site.files c.args.site.now)).samples (slice_index (ends_of c.args.store.now.held))
    c.recount_all.new.recounts.items
    c.recount_all.ensures.counted)

-- a recording is refused
pub returns-in-Err-clause-prints : goal.returns-in-Err-clause-prints
returns-in-Err-clause-prints g c =
    λ writes. recounting_unprinted c.in-Err.status c.in-Err.ensures.kind c.args.config.now (g.O.Sink.written c.args.out.now)

pub returns-in-Err-clause-answer : goal.returns-in-Err-clause-answer
returns-in-Err-clause-answer g c = λ shows.
    recounting_answers c.args.config.now c.args.store.now.head.heads (IsItem c.args.store.now.held) (ends_of c.args.store.now.held)
    (g.T.Site.files c.args.site.now) c.in-Err.status c.in-Err.ensures.kind (c.in-Err.ensures.answer shows)

pub returns-in-Err-clause-kind : goal.returns-in-Err-clause-kind
returns-in-Err-clause-kind g c = recounting_kind c.in-Err.status c.in-Err.ensures.kind

pub returns-in-Err-clause-write : goal.returns-in-Err-clause-write
returns-in-Err-clause-write g c = λ is. absurd (recounting_no_write c.in-Err.status c.in-Err.ensures.kind is)

pub returns-in-Err-clause-asked : goal.returns-in-Err-clause-asked
returns-in-Err-clause-asked g c =
    recounting_asks (g.T.Site.names_asked c.args.site.now) (g.T.Site.names_asked c.recount_all.new.site)
    (file_names c.args.config.now)
    c.in-Err.status c.in-Err.ensures.kind c.in-Err.ensures.asked

-- something differs
pub returns-in-Some-clause-asked : goal.returns-in-Some-clause-asked
returns-in-Some-clause-asked g c =
    other_asks (g.T.Site.names_asked c.args.site.now) (g.T.Site.names_asked c.recount_all.new.site) (file_names c.args.config.now)
    c.in-Some.status c.in-Some.ensures.kind c.in_default-recount_all.ensures.asked

pub returns-in-Some-clause-prints : goal.returns-in-Some-clause-prints
returns-in-Some-clause-prints g c =
    λ writes. other_unprinted c.in-Some.status c.in-Some.ensures.kind c.args.config.now (g.O.Sink.written c.args.out.now)

pub returns-in-Some-clause-kind : goal.returns-in-Some-clause-kind
returns-in-Some-clause-kind g c = other_kind c.in-Some.status c.in-Some.ensures.kind

pub returns-in-Some-clause-read : goal.returns-in-Some-clause-read
returns-in-Some-clause-read g c = λ is. absurd ((other_no_fault c.in-Some.status c.in-Some.ensures.kind).0 is)

pub returns-in-Some-clause-write : goal.returns-in-Some-clause-write
returns-in-Some-clause-write g c = λ is. absurd ((other_no_fault c.in-Some.status c.in-Some.ensures.kind).1 is)

pub returns-in-Some-clause-answer : goal.returns-in-Some-clause-answer
returns-in-Some-clause-answer g c = λ shows.
    let config = c.args.config.now in
    let files = g.T.Site.files c.args.site.now in
    let ends = ends_of c.args.store.now.held in
    let w = held_of (recordings c.args.config.now (g.T.Site.files c.args.site.now)).samples (ends_of c.args.store.now.held) in
    let are = subst (λ (l : List Recount). AreOf c.args.config.now l
    (held_of (recordings c.args.config.now (g.T.Site.files c.args.site.now)).samples (ends_of c.args.store.now.held)))
    (sym c.deref.ensures.value)
    (are_of config g.T.Site.tells (recordings config files).samples (slice_index ends) c.recount_all.new.recounts.items
    c.recount_all.ensures.counted shows) in
    other_answers config c.args.store.now.head.heads (IsItem c.args.store.now.held) ends files c.in-Some.status c.in-Some.ensures.kind
    (c.in_default-recount_all.ensures.answer shows, c.in-Some.ensures.finds w are)

-- nothing differs
pub returns-in-Ok-print_same-clause-answer : goal.returns-in-Ok-print_same-clause-answer
returns-in-Ok-print_same-clause-answer g c = λ shows.
    let config = c.args.config.now in
    let files = g.T.Site.files c.args.site.now in
    let ends = ends_of c.args.store.now.held in
    let w = held_of (recordings c.args.config.now (g.T.Site.files c.args.site.now)).samples (ends_of c.args.store.now.held) in
    let are = subst (λ (l : List Recount). AreOf c.args.config.now l
    (held_of (recordings c.args.config.now (g.T.Site.files c.args.site.now)).samples (ends_of c.args.store.now.held)))
    (sym c.deref.ensures.value)
    (are_of config g.T.Site.tells (recordings config files).samples (slice_index ends) c.recount_all.new.recounts.items
    c.recount_all.ensures.counted shows) in
    (c.in_default-recount_all.ensures.answer shows, c.in_default-first_other.ensures.finds w are)

pub returns-clause-answer : goal.returns-clause-answer
returns-clause-answer g c = λ shows.
    let config = c.args.config.now in
    let files = g.T.Site.files c.args.site.now in
    let ends = ends_of c.args.store.now.held in
    let w = held_of (recordings c.args.config.now (g.T.Site.files c.args.site.now)).samples (ends_of c.args.store.now.held) in
    let are = subst (λ (l : List Recount). AreOf c.args.config.now l
    (held_of (recordings c.args.config.now (g.T.Site.files c.args.site.now)).samples (ends_of c.args.store.now.held)))
    (sym c.deref.ensures.value)
    (are_of config g.T.Site.tells (recordings config files).samples (slice_index ends) c.recount_all.new.recounts.items
    c.recount_all.ensures.counted shows) in
    (c.in_default-recount_all.ensures.answer shows, c.in_default-first_other.ensures.finds w are)
