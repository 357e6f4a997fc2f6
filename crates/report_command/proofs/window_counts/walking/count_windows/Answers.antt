use Rattle.std.proofs.Common.{ℕ, List, sym, ap, subst, ◌∙◌, arith}
use Rattle.std.specs.Prelude.{IfOk, IfErr}
use Rattle.outside.proofs.Faults.{rose_before}
use Rattle.calibration.specs.declared.setup.Setup.{Setup}
use Rattle.store_bytes.specs.store_head.Head.{HeadValue}
use Rattle.segment_store.specs.Image.{Reads}
use Rattle.report_command.proofs.on_window_counts.Counted.{same_fault}
use Rattle.status.specs.Refused.{IsRefused}
use Rattle.segment_store.proofs.Answering.{resumes_err}
use Rattle.segment_store.proofs.Quiet.{quiet_then}
use Rattle.store_bytes.specs.declared.store_head.setup.StoreHead.{StoreHead}
use Rattle.segment_store.specs.Image.{IsStoreOf}
use Rattle.report_command.proofs.window_counts.walking.count_windows.Goals as goal

pub returns-in-Ok-clause-counted : goal.returns-in-Ok-clause-counted
returns-in-Ok-clause-counted g c tells head bodies ends of reads =
    let same = (c.read_head.ensures.quiet tells).seen_same in
    let r = c.in-Ok.ensures.reads tells head bodies ends of reads in
    c.count_by.ensures.counted tells head bodies ends of (sym (ap (λ (h : HeadValue). h.heads) r) ∙ sym c.as_slice.ensures)
    (subst (λ i. Reads head bodies ends i) (sym same) reads)

pub returns-in-Ok-clause-there : goal.returns-in-Ok-clause-there
returns-in-Ok-clause-there g c tells =
    subst (λ i. IfOk c.count_by.result (λ _. IsStoreOf c.args.setup.now i)) (c.read_head.ensures.quiet tells).seen_same
    (c.count_by.ensures.there tells)

pub returns-in-Ok-clause-walk : goal.returns-in-Ok-clause-walk
returns-in-Ok-clause-walk g c =
    let walk = c.count_by.ensures.walk in
    let setup : Setup = c.args.setup.now in
    record {
      refuses = λ tells. subst (λ i. IfErr c.count_by.result (λ fault. IsRefused setup i fault))
          (c.read_head.ensures.quiet tells).seen_same (walk.refuses tells);
      unharmed = λ tells s. walk.unharmed tells (subst (IsStoreOf setup) (sym (c.read_head.ensures.quiet tells).seen_same) s);
      quiet = λ tells. quiet_then (c.read_head.ensures.quiet tells) (walk.quiet tells);
      cause = λ is. rose_before _ _ _ c.read_head.ensures.later (walk.cause is);
      later = omega (arith, c.read_head.ensures.later, walk.later);
    }

pub returns-in-Err-clause-walk : goal.returns-in-Err-clause-walk
returns-in-Err-clause-walk g c = record {
  refuses = λ tells. resumes_err {X = ℕ × List ℕ} c.args.setup.now (g.K.Station.seen c.args.station.now) (λ x. x) StoreHead c.in-Err.fault
      (c.in-Err.ensures.answer tells);
  unharmed = λ tells s. c.in-Err.ensures.unharmed tells s.head s.bodies s.ends s.of_setup s.reads;
  quiet = c.read_head.ensures.quiet;
  cause = λ is. c.in-Err.ensures.cause (same_fault is);
  later = c.read_head.ensures.later;
}
