use Rattle.std.proofs.Common.{◌≡◌, ℕ, List, subst}
use Rattle.segment.specs.segment_rules.Parts.{PartsValue}
use Rattle.segment_store.specs.Image.{Reads}
use Rattle.store_bytes.specs.store_head.Head.{HeadValue}
use Rattle.report_command.specs.compact_command.Copying.{Copies}
use Rattle.report_command.proofs.StoreRun.{refused_store, ended, reads_as}
use Rattle.report_command.proofs.on_compact_command.Copied.{copy_holds}
use Rattle.report_command.proofs.compact_command.command.StoreCopyStoreWriter.write.Goals as goal

-- the store is resumed
pub returns-in-Ok : goal.returns-in-Ok
returns-in-Ok g c =
    let k = g.K.Station in
    let s = c.in-Ok.store in
    let here = c.in-Ok.ensures in
    let old = g.O.Sink.written c.args.out.now in
    let new = g.O.Sink.written c.write_copy.new.out in
    record {
      run = ended c.resume.ensures.quiet c.resume.ensures.later
          (λ tells. reads_as s here.setup (here.on tells) (c.resume.ensures.quiet tells).seen_same)
          c.write_copy.ensures.kind c.write_copy.ensures.nothing c.write_copy.ensures.write (λ writes tells printing.
          let copies : (head : HeadValue) (bodies : List PartsValue) (ends : List ℕ) → head.setup ≡ c.args.config.now.setup →
          Reads head bodies ends (k.seen c.args.station.now) → Copies c.write_copy.result head bodies ends old new =
          λ head bodies ends of reads.
          let found = here.reads tells head bodies ends of reads in
          subst (λ (h : HeadValue). Copies c.write_copy.result h bodies ends old new) found.0
          (subst (λ e. Copies c.write_copy.result s.head bodies e old new) found.1
          (c.write_copy.ensures.copies writes bodies (k.seen c.resume.new.station) found.2.reads found.2.held)) in
          record {
            copies = copies;
            holds = λ w n h done. copy_holds h.head h.bodies n old new c.write_copy.result c.args.config.now.setup w h.of_setup h.stand done
                (copies h.head h.bodies n h.of_setup h.reads);
          });
    }

pub returns-in-Err : goal.returns-in-Err
returns-in-Err g c = record {
  run = refused_store c.in-Err.fault c.status_of.ensures c.in-Err.ensures.answer c.in-Err.ensures.unharmed c.in-Err.ensures.cause
      c.resume.ensures.quiet c.resume.ensures.later;
}
