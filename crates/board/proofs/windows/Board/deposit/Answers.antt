use Rattle.std.proofs.Common.{◌≡◌, ◌≤◌, ◌<◌, ◌+◌, ◌*◌, ◌++◌, ◌∷◌, [], length, get_or, set, refl, sym, ap, ◌∙◌, subst, arith, Some}
use Rattle.segment.specs.declared.segment_rules.name.Name.{Name}
use Rattle.segment.specs.Name.{name_of}
use Rattle.board.specs.Board.{BoardValue, Row, IsBoard, CarriesSamples}
use Rattle.board.specs.Rows.{PlacesSegment, FindsDouble}
use Rattle.board.specs.DepositAnswers.{IsDepositAnswer, IsBlockNumber}
use Rattle.board.specs.declared.windows.Deposit.TheVariants.{Double}
use Rattle.board.proofs.Depositing.{placed_board, placed_room, placed_carries, row_same, doubled, can_place, number_fits, number_there}
use Rattle.board.specs.declared.flow.TheConstants.{BLOCKS_PER_WINDOW}
use Rattle.board.proofs.windows.Board.deposit.Goals as goal

pub invariant_of-self : goal.invariant_of-self
invariant_of-self c =
    let b : BoardValue = record {
      grid = c.self.inside.grid;
      block = c.self.inside.block;
      rows = c.self.inside.rows.items;
      arrivals =
          c.self.inside.arrivals.items;
    } in
    let segment = c.args.seg.now in
    let n = c.name-name.result in
    let is : n ≡ name_of segment = c.name-name.ensures.value in
    let there : n.gauge < length b.rows = omega (arith, c.if-gauge-len.false, c.len.ensures, c.self.inside.rows.ok.0) in
    let known : segment.gauge < length b.rows = subst (λ (m : Name). m.gauge < length b.rows) is there in
    let row : Row = c.index_mut.result.now in
    let at : row ≡ get_or b.rows segment.gauge row = subst (λ (m : Name). row ≡ get_or b.rows m.gauge row) is c.index_mut.ensures.value in
    let start : c.place.new.self.start ≡ (get_or b.rows segment.gauge row).start = c.place.ensures.start ∙ ap (λ (r : Row). r.start) at in
    let number : IsBlockNumber b.block (length b.rows) (get_or b.rows segment.gauge row).start (name_of segment) (Some c.in-Some.number) =
    subst (λ (m : Name). IsBlockNumber b.block (length b.rows) (get_or b.rows m.gauge row).start m (Some c.in-Some.number)) is
    (number_there b n c.index.result.now row _ _ b.block c.in-Some.number there c.start-start.ensures
    (c.len-2.ensures ∙ c.self.inside.rows.ok.0) c.index.ensures c.in-Some.ensures) in
    let double : FindsDouble (get_or b.rows segment.gauge row).slots c.place.new.self.slots segment c.in-Some-place.interval = subst
    (λ (r : Row). FindsDouble r.slots c.place.new.self.slots segment c.in-Some-place.interval) at c.in-Some-place.ensures.placing in
    let same : set b.rows n.gauge c.place.new.self ≡ b.rows = ap (λ (m : Name). set b.rows m.gauge c.place.new.self) is
    ∙ row_same b.rows segment.gauge c.place.new.self row start double.same in (
      c.self.invariant.0,
      subst (λ r. IsBoard (record { grid = b.grid; block = b.block; rows = r; arrivals = b.arrivals }))
          (sym same) c.self.invariant.1,
    )

pub push_reserved-requires : goal.push_reserved-requires
push_reserved-requires c =
    let b : BoardValue = record {
      grid = c.self.inside.grid;
      block = c.self.inside.block;
      rows = c.self.inside.rows.items;
      arrivals =
          c.self.inside.arrivals.items;
    } in
    let segment = c.args.seg.now in
    let n = c.name-name.result in
    let is : n ≡ name_of segment = c.name-name.ensures.value in
    let there : n.gauge < length b.rows = omega (arith, c.if-gauge-len.false, c.len.ensures, c.self.inside.rows.ok.0) in
    let known : segment.gauge < length b.rows = subst (λ (m : Name). m.gauge < length b.rows) is there in
    let row : Row = c.index_mut.result.now in
    let at : row ≡ get_or b.rows segment.gauge row = subst (λ (m : Name). row ≡ get_or b.rows m.gauge row) is c.index_mut.ensures.value in
    let start : c.place.new.self.start ≡ (get_or b.rows segment.gauge row).start = c.place.ensures.start ∙ ap (λ (r : Row). r.start) at in
    let number : IsBlockNumber b.block (length b.rows) (get_or b.rows segment.gauge row).start (name_of segment) (Some c.in-Some.number) =
    subst (λ (m : Name). IsBlockNumber b.block (length b.rows) (get_or b.rows m.gauge row).start m (Some c.in-Some.number)) is
    (number_there b n c.index.result.now row _ _ b.block c.in-Some.number there c.start-start.ensures
    (c.len-2.ensures ∙ c.self.inside.rows.ok.0) c.index.ensures c.in-Some.ensures) in
    let kind : segment.grid ≡ b.grid = c.requires.grid ∙ sym (ap (λ (v : BoardValue). v.grid) c.self.view_is) in
    let fits = can_place b segment row c.in-Some.number c.self.invariant.1 known number in
    let put : PlacesSegment (get_or b.rows segment.gauge row).start b.block (get_or b.rows segment.gauge row).slots c.place.new.self.slots
    segment = subst
    (λ (r : Row). PlacesSegment r.start b.block r.slots c.place.new.self.slots segment) at c.in-None.ensures.placing in
    let room : length b.arrivals + 1 ≤ BLOCKS_PER_WINDOW * length b.rows = placed_room b c.in-Some.number segment c.place.new.self row
    (b.arrivals ++ name_of segment ∷ []) known start c.self.invariant.1 kind fits put refl in
    omega (arith, room, c.self.invariant.0, c.self.inside.rows.ok.0, c.self.inside.arrivals.ok.0)

pub invariant_of-self-in-None : goal.invariant_of-self-in-None
invariant_of-self-in-None c =
    let b : BoardValue = record {
      grid = c.self.inside.grid;
      block = c.self.inside.block;
      rows = c.self.inside.rows.items;
      arrivals =
          c.self.inside.arrivals.items;
    } in
    let segment = c.args.seg.now in
    let n = c.name-name.result in
    let is : n ≡ name_of segment = c.name-name.ensures.value in
    let there : n.gauge < length b.rows = omega (arith, c.if-gauge-len.false, c.len.ensures, c.self.inside.rows.ok.0) in
    let known : segment.gauge < length b.rows = subst (λ (m : Name). m.gauge < length b.rows) is there in
    let row : Row = c.index_mut.result.now in
    let at : row ≡ get_or b.rows segment.gauge row = subst (λ (m : Name). row ≡ get_or b.rows m.gauge row) is c.index_mut.ensures.value in
    let start : c.place.new.self.start ≡ (get_or b.rows segment.gauge row).start = c.place.ensures.start ∙ ap (λ (r : Row). r.start) at in
    let number : IsBlockNumber b.block (length b.rows) (get_or b.rows segment.gauge row).start (name_of segment) (Some c.in-Some.number) =
    subst (λ (m : Name). IsBlockNumber b.block (length b.rows) (get_or b.rows m.gauge row).start m (Some c.in-Some.number)) is
    (number_there b n c.index.result.now row _ _ b.block c.in-Some.number there c.start-start.ensures
    (c.len-2.ensures ∙ c.self.inside.rows.ok.0) c.index.ensures c.in-Some.ensures) in
    let kind : segment.grid ≡ b.grid = c.requires.grid ∙ sym (ap (λ (v : BoardValue). v.grid) c.self.view_is) in
    let fits = can_place b segment row c.in-Some.number c.self.invariant.1 known number in
    let put : PlacesSegment (get_or b.rows segment.gauge row).start b.block (get_or b.rows segment.gauge row).slots c.place.new.self.slots
    segment = subst
    (λ (r : Row). PlacesSegment r.start b.block r.slots c.place.new.self.slots segment) at c.in-None.ensures.placing in
    let grown : c.push_reserved.new.self.items ≡ b.arrivals ++ name_of segment ∷ [] = c.push_reserved.ensures.items ∙ ap
    (λ (m : Name). b.arrivals ++ m ∷ []) is in (
      omega (arith, c.self.invariant.0, c.push_reserved.ensures.capacity),
      subst (λ (m : Name). IsBoard (record {
        grid = b.grid;
        block = b.block;
        rows = set b.rows m.gauge c.place.new.self;
        arrivals =
            c.push_reserved.new.self.items;
      })) (sym is)
          (placed_board b c.in-Some.number segment c.place.new.self row c.push_reserved.new.self.items known start c.self.invariant.1 kind
          fits put grown),
    )

pub returns-in-Some-place-clause-answer : goal.returns-in-Some-place-clause-answer
returns-in-Some-place-clause-answer c =
    let b : BoardValue = record {
      grid = c.self.inside.grid;
      block = c.self.inside.block;
      rows = c.self.inside.rows.items;
      arrivals =
          c.self.inside.arrivals.items;
    } in
    let segment = c.args.seg.now in
    let n = c.name-name.result in
    let is : n ≡ name_of segment = c.name-name.ensures.value in
    let there : n.gauge < length b.rows = omega (arith, c.if-gauge-len.false, c.len.ensures, c.self.inside.rows.ok.0) in
    let known : segment.gauge < length b.rows = subst (λ (m : Name). m.gauge < length b.rows) is there in
    let row : Row = c.index_mut.result.now in
    let at : row ≡ get_or b.rows segment.gauge row = subst (λ (m : Name). row ≡ get_or b.rows m.gauge row) is c.index_mut.ensures.value in
    let start : c.place.new.self.start ≡ (get_or b.rows segment.gauge row).start = c.place.ensures.start ∙ ap (λ (r : Row). r.start) at in
    let number : IsBlockNumber b.block (length b.rows) (get_or b.rows segment.gauge row).start (name_of segment) (Some c.in-Some.number) =
    subst (λ (m : Name). IsBlockNumber b.block (length b.rows) (get_or b.rows m.gauge row).start m (Some c.in-Some.number)) is
    (number_there b n c.index.result.now row _ _ b.block c.in-Some.number there c.start-start.ensures
    (c.len-2.ensures ∙ c.self.inside.rows.ok.0) c.index.ensures c.in-Some.ensures) in
    let double : FindsDouble (get_or b.rows segment.gauge row).slots c.place.new.self.slots segment c.in-Some-place.interval = subst
    (λ (r : Row). FindsDouble r.slots c.place.new.self.slots segment c.in-Some-place.interval) at c.in-Some-place.ensures.placing in
    let same : set b.rows n.gauge c.place.new.self ≡ b.rows = ap (λ (m : Name). set b.rows m.gauge c.place.new.self) is
    ∙ row_same b.rows segment.gauge c.place.new.self row start double.same in
    let found = doubled b segment c.place.new.self.slots c.in-Some-place.interval row c.self.invariant.1 known double in
    let whole : IsDepositAnswer b (record {
      grid = b.grid;
      block = b.block;
      rows = set b.rows n.gauge c.place.new.self;
      arrivals =
          b.arrivals;
    }) segment (Double c.in-Some-place.interval) = (
      number_fits b (name_of segment) row c.in-Some.number known number,
      found.0,
      found.1,
      ap
          (λ r. record { grid = b.grid; block = b.block; rows = r; arrivals = b.arrivals }) same,
    ) in
    subst (λ v. IsDepositAnswer v (record {
      grid = b.grid;
      block = b.block;
      rows = set b.rows n.gauge c.place.new.self;
      arrivals =
          b.arrivals;
    }) segment (Double c.in-Some-place.interval)) c.self.view_is whole

pub returns-in-Some-place-clause-carries : goal.returns-in-Some-place-clause-carries
returns-in-Some-place-clause-carries c =
    let b : BoardValue = record {
      grid = c.self.inside.grid;
      block = c.self.inside.block;
      rows = c.self.inside.rows.items;
      arrivals =
          c.self.inside.arrivals.items;
    } in
    let segment = c.args.seg.now in
    let n = c.name-name.result in
    let is : n ≡ name_of segment = c.name-name.ensures.value in
    let there : n.gauge < length b.rows = omega (arith, c.if-gauge-len.false, c.len.ensures, c.self.inside.rows.ok.0) in
    let known : segment.gauge < length b.rows = subst (λ (m : Name). m.gauge < length b.rows) is there in
    let row : Row = c.index_mut.result.now in
    let at : row ≡ get_or b.rows segment.gauge row = subst (λ (m : Name). row ≡ get_or b.rows m.gauge row) is c.index_mut.ensures.value in
    let start : c.place.new.self.start ≡ (get_or b.rows segment.gauge row).start = c.place.ensures.start ∙ ap (λ (r : Row). r.start) at in
    let number : IsBlockNumber b.block (length b.rows) (get_or b.rows segment.gauge row).start (name_of segment) (Some c.in-Some.number) =
    subst (λ (m : Name). IsBlockNumber b.block (length b.rows) (get_or b.rows m.gauge row).start m (Some c.in-Some.number)) is
    (number_there b n c.index.result.now row _ _ b.block c.in-Some.number there c.start-start.ensures
    (c.len-2.ensures ∙ c.self.inside.rows.ok.0) c.index.ensures c.in-Some.ensures) in
    let double : FindsDouble (get_or b.rows segment.gauge row).slots c.place.new.self.slots segment c.in-Some-place.interval = subst
    (λ (r : Row). FindsDouble r.slots c.place.new.self.slots segment c.in-Some-place.interval) at c.in-Some-place.ensures.placing in
    let same : set b.rows n.gauge c.place.new.self ≡ b.rows = ap (λ (m : Name). set b.rows m.gauge c.place.new.self) is
    ∙ row_same b.rows segment.gauge c.place.new.self row start double.same in
    λ gain w all one. subst (λ r. CarriesSamples (record { grid = b.grid; block = b.block; rows = r; arrivals = b.arrivals })
    gain w) (sym same)
    (subst (λ v. CarriesSamples v gain w) (sym c.self.view_is) all)

pub returns-in-Some-place-clause-board : goal.returns-in-Some-place-clause-board
returns-in-Some-place-clause-board c = (invariant_of-self c).1

pub returns-in-None-clause-carries : goal.returns-in-None-clause-carries
returns-in-None-clause-carries c =
    let b : BoardValue = record {
      grid = c.self.inside.grid;
      block = c.self.inside.block;
      rows = c.self.inside.rows.items;
      arrivals =
          c.self.inside.arrivals.items;
    } in
    let segment = c.args.seg.now in
    let n = c.name-name.result in
    let is : n ≡ name_of segment = c.name-name.ensures.value in
    let there : n.gauge < length b.rows = omega (arith, c.if-gauge-len.false, c.len.ensures, c.self.inside.rows.ok.0) in
    let known : segment.gauge < length b.rows = subst (λ (m : Name). m.gauge < length b.rows) is there in
    let row : Row = c.index_mut.result.now in
    let at : row ≡ get_or b.rows segment.gauge row = subst (λ (m : Name). row ≡ get_or b.rows m.gauge row) is c.index_mut.ensures.value in
    let start : c.place.new.self.start ≡ (get_or b.rows segment.gauge row).start = c.place.ensures.start ∙ ap (λ (r : Row). r.start) at in
    let number : IsBlockNumber b.block (length b.rows) (get_or b.rows segment.gauge row).start (name_of segment) (Some c.in-Some.number) =
    subst (λ (m : Name). IsBlockNumber b.block (length b.rows) (get_or b.rows m.gauge row).start m (Some c.in-Some.number)) is
    (number_there b n c.index.result.now row _ _ b.block c.in-Some.number there c.start-start.ensures
    (c.len-2.ensures ∙ c.self.inside.rows.ok.0) c.index.ensures c.in-Some.ensures) in
    let kind : segment.grid ≡ b.grid = c.requires.grid ∙ sym (ap (λ (v : BoardValue). v.grid) c.self.view_is) in
    let fits = can_place b segment row c.in-Some.number c.self.invariant.1 known number in
    let put : PlacesSegment (get_or b.rows segment.gauge row).start b.block (get_or b.rows segment.gauge row).slots c.place.new.self.slots
    segment = subst
    (λ (r : Row). PlacesSegment r.start b.block r.slots c.place.new.self.slots segment) at c.in-None.ensures.placing in
    let grown : c.push_reserved.new.self.items ≡ b.arrivals ++ name_of segment ∷ [] = c.push_reserved.ensures.items ∙ ap
    (λ (m : Name). b.arrivals ++ m ∷ []) is in
    λ gain w all one.
    subst (λ (m : Name). CarriesSamples (record {
      grid = b.grid;
      block = b.block;
      rows = set b.rows m.gauge c.place.new.self;
      arrivals =
          c.push_reserved.new.self.items;
    }) gain w) (sym is)
    (placed_carries b c.in-Some.number segment c.place.new.self row c.push_reserved.new.self.items known start
    c.self.invariant.1 kind fits put
    grown gain w (subst (λ v. CarriesSamples v gain w) (sym c.self.view_is) all) one)

pub returns-in-None-clause-board : goal.returns-in-None-clause-board
returns-in-None-clause-board c = (invariant_of-self-in-None c).1
