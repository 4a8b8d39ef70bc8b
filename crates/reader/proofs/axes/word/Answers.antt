use Rattle.std.proofs.Common.{◌-◌, length, sym, ap, ◌∙◌, drop}
use Rattle.std.proofs.lemmas.List.{take_rest}
use Rattle.reader.proofs.Counts.{spells_all, spells_less}
use Rattle.reader.proofs.axes.word.Goals as goal

pub returns-then-same-w : goal.returns-then-same-w
returns-then-same-w c = spells_all c.args.w.now c.args.text.now (record { ref_ptr = c.args.text.ref_ptr; now = _ }) (sym c.agreeing-same.ensures.count ∙ c.if-same-w.true) (take_rest c.args.text.now c.agreeing-same.result ∙ ap (λ n. drop n c.args.text.now) c.if-same-w.true)

pub returns-else-same-w : goal.returns-else-same-w
returns-else-same-w c = spells_less c.args.w.now c.args.text.now _ (λ e. c.if-same-w.false (c.agreeing-same.ensures.count ∙ e)) (ap (λ n. length c.args.text.now - n) c.agreeing-same.ensures.count)
