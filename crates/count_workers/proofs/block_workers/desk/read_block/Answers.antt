use Rattle.std.proofs.Common.{rules, arith, inl, inr, refl, ap, ◌∙◌, ◌+◌, ◌-◌, ◌%◌, ◌≡◌, ◌≤◌, ◌<◌, length, vec_len, false}
use Rattle.board.specs.block_pool.Units.{IsBlank}
use Rattle.board.proofs.on_block_pool.Fitting.{all_push, all_take}
use Rattle.count_workers.specs.block_workers.Reading.{OneBlock}
use Rattle.count_workers.proofs.on_block_workers.Blocks.{unit_is, samples_are, feeds_through, popped, first_samples, gives_as, written_blank, no_both}
use Rattle.count_workers.proofs.block_workers.desk.read_block.Goals as goal

pub returns-then-given-eq0-clause-read : goal.returns-then-given-eq0-clause-read
returns-then-given-eq0-clause-read g c =
    let some : 0 < vec_len c.args.desk.now.blanks = omega (arith, c.requires.ready.blanks, c.requires.number) in
    let blank : IsBlank c.args.desk.now.block c.args.desk.now.grid c.in-Some.unit =
    popped _ _ (vec_len c.args.desk.now.blanks) c.args.desk.now.blanks.items c.in-Some.unit c.requires.ready.fit
    c.args.desk.now.blanks.ok.0 some c.in-Some.ensures.value in
    let given : length c.buffer.result.now ≡ c.args.desk.now.block = c.buffer.ensures.long ∙ blank.block in
    let kept : length c.read_samples-given.new.buf ≡ length c.buffer.result.now = search rules in
    let long : length c.read_samples-given.new.buf ≡ length c.in-Some.unit.buffer = kept ∙ c.buffer.ensures.long in
    let none_came : c.read_samples-given.result.n ≡ c.args.desk.now.at - c.args.desk.now.at = omega (arith, c.if-given-eq0.true) in
    record {
      same = record {
        gauge = refl;
        gain = refl;
        block = refl;
        grid = refl;
        feeders = refl;
        room = c.push_reserved.ensures.capacity
            ∙ c.pop.ensures.capacity;
      };
      limit = c.requires.ready.limit;
      gives = λ t. gives_as _ _ _ _ _ _ _ _ given none_came (c.read_samples-given.ensures.gives t);
      did = inl (record {
        at = refl;
        feeders = refl;
        blanks = omega (arith, c.push_reserved.ensures.len, c.in-Some.ensures.cases);
        fit = all_push _ _ _ _ _ (all_take _ _ _ c.args.desk.now.blanks.items _ c.requires.ready.fit c.pop.ensures.rest)
            (written_blank _ _ _ _ _ long blank.block blank.grid) c.push_reserved.ensures.items;
      });
      whole = λ e. absurd (no_both false e refl);
      ended = λ q m. (let full = c.read_samples-given.ensures.full m in
          omega (arith, full, given, c.if-given-eq0.true, c.requires.ready.some));
    }

pub returns-clause-read : goal.returns-clause-read
returns-clause-read g c =
    let some : 0 < vec_len c.args.desk.now.blanks = omega (arith, c.requires.ready.blanks, c.requires.number) in
    let blank : IsBlank c.args.desk.now.block c.args.desk.now.grid c.in-Some.unit =
    popped _ _ (vec_len c.args.desk.now.blanks) c.args.desk.now.blanks.items c.in-Some.unit c.requires.ready.fit
    c.args.desk.now.blanks.ok.0 some c.in-Some.ensures.value in
    let given : length c.buffer.result.now ≡ c.args.desk.now.block = c.buffer.ensures.long ∙ blank.block in
    let kept : length c.read_samples-given.new.buf ≡ length c.buffer.result.now = search rules in
    let long : length c.read_samples-given.new.buf ≡ length c.in-Some.unit.buffer = kept ∙ c.buffer.ensures.long in
    let within : c.read_samples-given.result.n ≤ length c.read_samples-given.new.buf =
    omega (arith, c.read_samples-given.ensures.within.0, kept) in
    let came : 0 < c.read_samples-given.result.n = omega (arith, c.if-given-eq0.false) in
    let is = unit_is c.args.desk.now c.read_samples-given.result.n _ _ _ _ c.filled-filled.ensures long blank.block blank.grid within came
    in
    let unit : OneBlock g.C.Source.tells (g.C.Source.left c.args.src.now) c.args.desk.now _ c.args.number = record {
      unit = c.filled-filled.result;
      is = is;
      samples = λ t. first_samples c.read_samples-given.result.n c.filled-filled.result c.args.desk.now.at _ _ is.long
          (samples_are _ _ _ _ _ _ _ _ _ c.filled-filled.ensures long) (c.read_samples-given.ensures.samples t).1;
      feeds = feeds_through c.args.desk.now.feeders.items _ c.deal.new.feeders c.args.desk.now.feeders.len (c.args.number % c.len.result)
          (c.args.number % vec_len c.args.desk.now.feeders) _ c.as_mut_slice.ensures.value c.args.desk.now.feeders.ok.0
          (ap (λ k. c.args.number % k) c.len.ensures) c.deal.ensures;
      blanks = c.in-Some.ensures.cases;
      fit = all_take _ _ _ c.args.desk.now.blanks.items _ c.requires.ready.fit c.pop.ensures.rest;
    } in
    let at_end : c.read_samples-given.result.n ≡ c.args.desk.now.at + c.read_samples-given.result.n - c.args.desk.now.at = omega arith in
    record {
      same = record { gauge = refl; gain = refl; block = refl; grid = refl; feeders = refl; room = c.pop.ensures.capacity };
      limit = omega (arith, c.read_samples-given.ensures.within.1, c.requires.ready.limit);
      gives = λ t. gives_as _ _ _ _ _ _ _ _ given at_end (c.read_samples-given.ensures.gives t);
      did = inr unit;
      whole = λ e. (let more = c.may_go_on.ensures.more e in (unit, omega (arith, c.read_samples-given.ensures.full more, given), more));
      ended = λ q. c.may_go_on.ensures.over q;
    }
