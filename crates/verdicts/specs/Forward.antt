-- The queries that look back only: all axes of the path are forward and all axes within its filters are backward.
use Rattle.std.specs.Prelude.{Bool, ◌&&◌}
use Rattle.model.specs.Axes.{is_forward, is_backward}
use Rattle.model.specs.Query.{Path, last, then, Step, plain, filtered, Filter, holds, both, either, negated}

-- whether all axes of a path, its own and those within its filters, are backward
abbrev mutual
  pub backward_path : Path → Bool
  backward_path (last s) = backward_step s
  backward_path (then s p) = backward_step s && backward_path p

  pub backward_step : Step → Bool
  backward_step (plain a t) = is_backward a
  backward_step (filtered a t f) = is_backward a && backward_filter f

  pub backward_filter : Filter → Bool
  backward_filter (holds p) = backward_path p
  backward_filter (both f g) = backward_filter f && backward_filter g
  backward_filter (either f g) = backward_filter f && backward_filter g
  backward_filter (negated f) = backward_filter f

abbrev pub forward_step : Step → Bool
forward_step (plain a t) = is_forward a
forward_step (filtered a t f) = is_forward a && backward_filter f

-- whether all axes of the path are forward and all axes within its filters are backward
abbrev pub forward_path : Path → Bool
forward_path (last s) = forward_step s
forward_path (then s p) = forward_step s && forward_path p
