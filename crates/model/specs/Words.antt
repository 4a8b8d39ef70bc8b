-- Layers, refusals and axes in words.
use Rattle.std.specs.Prelude.{ℕ, List, ◌++◌, codes, decimal}
use Rattle.model.specs.declared.axis.Axis.{Axis}
use Rattle.model.specs.declared.axis.Axis.TheVariants.{Itself, Child, Parent, Descendant, Ancestor, DescendantOrSelf, AncestorOrSelf, FollowingSibling, PrecedingSibling, Following, Preceding}
use Rattle.model.specs.declared.fault.Layer.{Layer}
use Rattle.model.specs.declared.fault.Layer.TheVariants.{Till, Receipt, Names, Query, Roll, Count}
use Rattle.model.specs.declared.fault.Refusal.{Refusal}

abbrev pub layer_text : Layer → List ℕ
layer_text Till = codes "till"
layer_text Receipt = codes "receipt"
layer_text Names = codes "names"
layer_text Query = codes "query"
layer_text Roll = codes "roll"
layer_text Count = codes "count"

abbrev pub refusal_text : Refusal → List ℕ
refusal_text r = decimal r.number ++ (codes ", layer " ++ (layer_text r.layer ++ (codes ", place " ++ decimal r.place)))

-- an axis as query texts name it, before "::"
abbrev pub axis_word : Axis → List ℕ
axis_word Itself = codes "self"
axis_word Child = codes "child"
axis_word Parent = codes "parent"
axis_word Descendant = codes "descendant"
axis_word Ancestor = codes "ancestor"
axis_word DescendantOrSelf = codes "descendant-or-self"
axis_word AncestorOrSelf = codes "ancestor-or-self"
axis_word FollowingSibling = codes "following-sibling"
axis_word PrecedingSibling = codes "preceding-sibling"
axis_word Following = codes "following"
axis_word Preceding = codes "preceding"
