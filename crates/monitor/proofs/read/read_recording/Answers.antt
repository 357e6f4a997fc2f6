use Rattle.std.proofs.Common.{◌≡◌, ◌++◌, [], Err, length, take, drop, length-take, sym, ◌∙◌, ap, arith, rules}
use Rattle.recording.specs.Samples.{samples, torn_bytes}
use Rattle.monitor.specs.Figures.{MOST_HALF_UNITS}
use Rattle.monitor.specs.Printed.{table_grid, table_gain}
use Rattle.file_commands.specs.file_tasks.Answer.{answer_for}
use Rattle.file_commands.specs.file_tasks.FileState.{state_of}
use Rattle.status.specs.declared.status.Status.TheVariants.{Torn}
use Rattle.monitor.proofs.RecordingRead.{more_read, all_read, sound_end, torn_end, too_many, by_classifier, of_classifier}
use Rattle.file_commands.proofs.on_file_tasks.Refusals.{head_cause, head_fault, memory_cause, memory_fault, state_with_head, err_is}
use Rattle.monitor.proofs.read.read_recording.Goals as goal
use Rattle.recording.specs.declared.head.TheConstants.{HEAD_LENGTH}

pub returns-in_err-read_head-clause-answer : goal.returns-in_err-read_head-clause-answer
returns-in_err-read_head-clause-answer g c = λ tells.
    head_cause 0 _ c.in_err-read_head.field-0.0 (g.S.Source.left c.args.src.now) c.from_residual.ensures.1
    (λ other. c.in_err-read_head.ensures.head tells (λ is. other (err_is is)))

pub returns-in_err-read_head-clause-cause : goal.returns-in_err-read_head-clause-cause
returns-in_err-read_head-clause-cause g c = λ is.
    c.in_err-read_head.ensures.cause (ap Err (head_fault _ c.in_err-read_head.field-0.0 c.from_residual.ensures.1 is))

pub returns-in_err-read_head-clause-later : goal.returns-in_err-read_head-clause-later
returns-in_err-read_head-clause-later g c = c.read_head.ensures.later

pub returns-in_err-figures-clause-answer : goal.returns-in_err-figures-clause-answer
returns-in_err-figures-clause-answer g c =
    λ tells. memory_cause 0 _ (g.S.Source.left c.args.src.now) c.from_residual-in_err-figures.ensures.1

pub returns-in_err-figures-clause-cause : goal.returns-in_err-figures-clause-cause
returns-in_err-figures-clause-cause g c = λ is. absurd (memory_fault _ c.from_residual-in_err-figures.ensures.1 is)

pub returns-in_err-figures-clause-later : goal.returns-in_err-figures-clause-later
returns-in_err-figures-clause-later g c = c.read_head.ensures.later

pub returns-in_err-piece-clause-answer : goal.returns-in_err-piece-clause-answer
returns-in_err-piece-clause-answer g c = λ tells. memory_cause 0 _ (g.S.Source.left c.args.src.now) c.from_residual-in_err-piece.ensures.1

pub returns-in_err-piece-clause-cause : goal.returns-in_err-piece-clause-cause
returns-in_err-piece-clause-cause g c = λ is. absurd (memory_fault _ c.from_residual-in_err-piece.ensures.1 is)

pub returns-in_err-piece-clause-later : goal.returns-in_err-piece-clause-later
returns-in_err-piece-clause-later g c = c.read_head.ensures.later

pub loop-init : goal.loop-init
loop-init g c =
    let figures = c.in_ok-figures.ensures in
    record {
      read = (
        [],
        figures,
        λ tells. (
          ap samples (sym (c.in_ok-read_head.ensures.left tells (λ is. cc))),
          ap torn_bytes (c.in_ok-read_head.ensures.left tells (λ is. cc)),
        ),
      );
      turns = omega arith;
      few = omega (arith, ap (λ k. k.samples) figures.counts);
      later = c.read_head.ensures.later;
      raws = search rules;
      levels = search rules;
    }

pub take-requires : goal.take-requires
take-requires g c = record {
  samples = c.loop.invariant.few;
  few = omega (
    arith,
    length-take c.fill-filled.result.n c.fill-filled.new.buf,
    c.fill-filled.ensures.within,
    c.fill-filled.ensures.length,
    c.loop.invariant.raws,
  );
  room = omega (
    arith,
    length-take c.fill-filled.result.n c.fill-filled.new.buf,
    c.fill-filled.ensures.length,
    c.loop.invariant.raws,
    c.loop.invariant.levels,
  );
  counted = (
    MOST_HALF_UNITS,
    (
      c.loop.invariant.read.0,
      of_classifier _ table_grid _ table_gain c.loop.figures _ c.table_classifier-classifier.ensures.grid
          c.table_classifier-classifier.ensures.gain c.loop.invariant.read.1,
    ),
  );
}

pub loop-preserved : goal.loop-preserved
loop-preserved g c =
    let file = g.S.Source.left c.args.src.now in
    let read = c.loop.invariant.read in
    let fill = c.fill-filled.ensures in
    let table = c.table_classifier-classifier.ensures in
    let taken = by_classifier _ table_grid _ table_gain c.loop.figures c.take.new.self _ table.grid table.gain
    (c.take.ensures.counted MOST_HALF_UNITS) read.0 read.1 in
    let filled : c.fill-filled.result.n ≡ length c.loop.raws = fill.full.0 c.in-More.is in
    record {
      read = (
        read.0 ++ take c.fill-filled.result.n c.fill-filled.new.buf,
        taken,
        λ tells. more_read table_grid table_gain c.take.new.self
            read.0 (drop HEAD_LENGTH file) (g.S.Source.left c.loop.src) (g.S.Source.left c.fill-filled.new.src) (length c.loop.raws)
            c.fill-filled.result.n c.fill-filled.result.end c.fill-filled.new.buf (read.2 tells) (fill.samples tells) (fill.taken tells)
            taken c.in-More.is,
      );
      turns = omega (
        arith,
        c.take.ensures.samples,
        length-take c.fill-filled.result.n c.fill-filled.new.buf,
        filled,
        fill.length,
        c.loop.invariant.turns,
        c.loop.invariant.raws,
      );
      few = c.if-figures-gt-MAX_SAMPLES.false;
      later = omega (arith, c.loop.invariant.later, fill.later);
      raws = fill.length ∙ c.loop.invariant.raws;
      levels = c.take.ensures.length ∙ c.loop.invariant.levels;
    }

pub returns-then-figures-gt-MAX_SAMPLES : goal.returns-then-figures-gt-MAX_SAMPLES
returns-then-figures-gt-MAX_SAMPLES g c =
    let file = g.S.Source.left c.args.src.now in
    let read = c.loop.invariant.read in
    let fill = c.fill-filled.ensures in
    let table = c.table_classifier-classifier.ensures in
    let taken = by_classifier _ table_grid _ table_gain c.loop.figures c.take.new.self _ table.grid table.gain
    (c.take.ensures.counted MOST_HALF_UNITS) read.0 read.1 in
    record {
      figures = tt;
      few = tt;
      answer = λ tells. sym (ap (answer_for 0) (state_with_head file c.in_ok-read_head.field-0
          (c.in_ok-read_head.ensures.head tells (λ is. cc)) ∙ too_many table_grid table_gain c.take.new.self read.0 (drop HEAD_LENGTH file)
          (g.S.Source.left c.loop.src) (g.S.Source.left c.fill-filled.new.src) (length c.loop.raws) c.fill-filled.result.n
          c.fill-filled.result.end c.fill-filled.new.buf (read.2 tells) (fill.samples tells) (fill.taken tells) taken
          c.if-figures-gt-MAX_SAMPLES.true));
      cause = λ is. absurd (cc);
      later = omega (arith, c.loop.invariant.later, fill.later);
    }

pub returns-in-Ended : goal.returns-in-Ended
returns-in-Ended g c =
    let file = g.S.Source.left c.args.src.now in
    let read = c.loop.invariant.read in
    let fill = c.fill-filled.ensures in
    let table = c.table_classifier-classifier.ensures in
    let taken = by_classifier _ table_grid _ table_gain c.loop.figures c.take.new.self _ table.grid table.gain
    (c.take.ensures.counted MOST_HALF_UNITS) read.0 read.1 in
    record {
      figures = (
        _,
        taken,
        λ tells. all_read table_grid table_gain c.take.new.self read.0 (drop HEAD_LENGTH file) (g.S.Source.left c.loop.src)
            (g.S.Source.left c.fill-filled.new.src) (length c.loop.raws) c.fill-filled.result.n c.fill-filled.result.end
            c.fill-filled.new.buf (read.2 tells) (fill.samples tells) (fill.taken tells) taken c.in-Ended.is,
      );
      few = c.if-figures-gt-MAX_SAMPLES.false;
      answer = λ tells. state_with_head file c.in_ok-read_head.field-0 (c.in_ok-read_head.ensures.head tells (λ is. cc)) ∙ sound_end
          table_grid table_gain c.take.new.self read.0 (drop HEAD_LENGTH file)
          (g.S.Source.left c.loop.src) (g.S.Source.left c.fill-filled.new.src) (length c.loop.raws) c.fill-filled.result.n
          c.fill-filled.result.end c.fill-filled.new.buf (read.2 tells) (fill.samples tells)
          (fill.taken tells) taken c.in-Ended.is c.if-figures-gt-MAX_SAMPLES.false;
      cause = λ is. absurd (cc);
      later = omega (arith, c.loop.invariant.later, fill.later);
    }

pub returns-in-Torn-clause-answer : goal.returns-in-Torn-clause-answer
returns-in-Torn-clause-answer g c =
    let file = g.S.Source.left c.args.src.now in
    let read = c.loop.invariant.read in
    let fill = c.fill-filled.ensures in
    let table = c.table_classifier-classifier.ensures in
    let taken = by_classifier _ table_grid _ table_gain c.loop.figures c.take.new.self _ table.grid table.gain
    (c.take.ensures.counted MOST_HALF_UNITS) read.0 read.1 in
    λ tells.
    let answer : Torn 0 c.in-Torn.bytes ≡ answer_for 0 (state_of file) = sym
    (ap (answer_for 0) (state_with_head file c.in_ok-read_head.field-0 (c.in_ok-read_head.ensures.head tells (λ is. cc)) ∙ torn_end
    table_grid table_gain c.take.new.self read.0 (drop HEAD_LENGTH file)
    (g.S.Source.left c.loop.src) (g.S.Source.left c.fill-filled.new.src) (length c.loop.raws) c.fill-filled.result.n
    c.fill-filled.result.end c.fill-filled.new.buf (read.2 tells) (fill.samples tells)
    (fill.taken tells) taken _ c.in-Torn.is c.if-figures-gt-MAX_SAMPLES.false)) in
    search rules

pub returns-in-Torn-clause-cause : goal.returns-in-Torn-clause-cause
returns-in-Torn-clause-cause g c = λ is. absurd (cc)

pub returns-in-Torn-clause-later : goal.returns-in-Torn-clause-later
returns-in-Torn-clause-later g c = omega (arith, c.loop.invariant.later, c.fill-filled.ensures.later)

pub returns-in-Failed : goal.returns-in-Failed
returns-in-Failed g c =
    let fill = c.fill-filled.ensures in
    record {
      figures = tt;
      few = tt;
      answer = λ tells. tt;
      cause = λ is. omega (arith, fill.cause c.in-Failed.is, c.loop.invariant.later);
      later = omega (arith, c.loop.invariant.later, fill.later);
    }
