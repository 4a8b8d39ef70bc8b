use Rattle.std.proofs.Common.{◌≡◌, leb, take}
use Rattle.std.specs.List.{list_all}
use Rattle.arrayvec.specs.ArrayVec.{array_vec_len}
use Rattle.table.specs.Lawful.{most_number, narrow}
use Rattle.table.proofs.measure.measure.Given as goal

abbrev pub invariant-loop-part : goal.invariant-loop-part
invariant-loop-part l = (l.counted.parts.now ≡ l.parts) × (array_vec_len l.counted.costs ≡ l.part-index) × (leb l.greatest most_number ≡ list_all narrow (take l.part-index l.parts))
