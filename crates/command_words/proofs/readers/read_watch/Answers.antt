use Rattle.std.proofs.Common.{◌≡◌, ◌∙◌, Some, option_map, ap, sym, subst, rules, map, string_bytes, List}
use Rattle.clap.specs.Words.{Text, app_of}
use Rattle.command_words.specs.Line.{Watch, watch_app, workers_at}
use Rattle.command_words.specs.Commands.{HasRead}
use Rattle.command_words.proofs.Lines.{workers_taken}
use Rattle.command_words.proofs.readers.read_watch.Goals as goal

pub returns-in-None-clause-line : goal.returns-in-None-clause-line
returns-in-None-clause-line c =
    let is : c.in_ok-matches.field-0 ≡ Some c.in-Some.matches = search rules in
    let words : List Text = map string_bytes c.args.words.now in
    let line = workers_taken (app_of c.in_ok-watch_app.field-0) watch_app Watch words c.in-Some.matches c.in_ok-watch_app.ensures
    (subst (λ r. HasRead (app_of c.in_ok-watch_app.field-0) words r) is c.in_ok-matches.ensures) in
    ap (option_map Watch) (c.in-None.ensures.value ∙ ap workers_at c.get_str.ensures) ∙ sym line

pub returns-clause-line : goal.returns-clause-line
returns-clause-line c =
    let is : c.in_ok-matches.field-0 ≡ Some c.in-Some.matches = search rules in
    let words : List Text = map string_bytes c.args.words.now in
    let line = workers_taken (app_of c.in_ok-watch_app.field-0) watch_app Watch words c.in-Some.matches c.in_ok-watch_app.ensures
    (subst (λ r. HasRead (app_of c.in_ok-watch_app.field-0) words r) is c.in_ok-matches.ensures) in
    ap (option_map Watch) (c.in-Some-workers_of.ensures.value ∙ ap workers_at c.get_str.ensures) ∙ sym line
