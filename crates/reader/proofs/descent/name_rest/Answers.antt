use Rattle.std.proofs.Common.{ap, ◌∙◌, drop, arith, refl}
use Rattle.std.proofs.lemmas.List.{take_rest}
use Rattle.reader.proofs.Counts.{name_within, name_past}
use Rattle.reader.proofs.descent.name_rest.Goals as goal

pub returns-then-used-room : goal.returns-then-used-room
returns-then-used-room c = name_within c.args.room c.args.text.now (record { ref_ptr = c.args.text.ref_ptr; now = _ }) (omega (arith, c.name_bytes-used.ensures.count, c.if-used-room.true)) (take_rest c.args.text.now c.name_bytes-used.result ∙ ap (λ n. drop n c.args.text.now) c.name_bytes-used.ensures.count)

pub returns-else-used-room : goal.returns-else-used-room
returns-else-used-room c = name_past c.args.room c.args.text.now _ (omega (arith, c.name_bytes-used.ensures.count, c.if-used-room.false)) refl
