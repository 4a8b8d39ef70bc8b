use Rattle.std.proofs.Common.{◌≡◌, ◌==◌, ◌+◌, ℕ, Bool, true, false, cond, count_by, sym, refl, ◌∙◌, rules, arith}
use Rattle.std.proofs.lemmas.List.Recursion.{is_count_by}
use Rattle.names.specs.Sheet.{line_ends}
use Rattle.names.proofs.line_ends.Goals as goal

one_more : (v : Bool) (n : ℕ) → cond v (n + 1) n ≡ cond v (1 + n) n
one_more true n = omega arith
one_more false n = refl

pub returns : goal.returns
returns c =
    let counted : c.count.result ≡ count_by (λ b. b == 10) c.args.sheet.now = search rules in
    counted ∙ sym (is_count_by line_ends (λ b. b == 10) refl (λ b t. one_more (b == 10) (line_ends t)) c.args.sheet.now)
