use Rattle.std.proofs.Common.{◌≡◌, ◌+◌, option_map, inl, sym, refl, ap, ◌∙◌, rules, arith, tests}
use Rattle.std.specs.List.{position}
use Rattle.std.specs.Str.{bytes_eq}
use Rattle.std.proofs.lemmas.Iterator.Consumers.{YieldsList-from_first}
use Rattle.std.proofs.lemmas.Iterator.Search.{position_from_yields_List}
use Rattle.names.specs.Sheet.{rows}
use Rattle.names.proofs.Cuts.{few_rows, label_place}
use Rattle.names.proofs.label.Goals as goal

pub position-requires-clause-fits : goal.position-requires-clause-fits
position-requires-clause-fits c = inl (omega (arith, few_rows c.args.sheet.now))

pub map-requires : goal.map-requires
map-requires c = λ x e _ _. let b = rw e at c.position.ensures.bound in omega (arith, few_rows c.args.sheet.now, b)

pub returns : goal.returns
returns c =
    let t = c.args.sheet.now in
    let n = c.args.name.now in
    let place : c.position.result ≡ position (λ r. bytes_eq r n) (rows t) = position_from_yields_List (λ r. bytes_eq r n) c.position.new.self _ c.position.result c.position.ensures.ran (YieldsList-from_first (λ x. x.now) (λ s. rows s.0.now) (rows t) refl) (λ x b q k. search (rules, tests)) in
    let more : c.map.result ≡ option_map (λ i. i + 1) c.position.result = search rules in
    more ∙ ap (option_map (λ i. i + 1)) place ∙ sym (label_place t n)
