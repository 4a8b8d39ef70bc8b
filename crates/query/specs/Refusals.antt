-- Each fault of a query text as callers are told of it: number, layer and place, and a plain sentence.
use Rattle.std.specs.Prelude.{ℕ, List, codes}
use Rattle.model.specs.declared.fault.Layer.TheVariants.{Query}
use Rattle.model.specs.declared.fault.Refusal.{Refusal}
use Rattle.names.specs.Refusals.{names_refusal, names_sentence}
use Rattle.query.specs.declared.QueryFault.{QueryFault}
use Rattle.query.specs.declared.QueryFault.TheVariants.{BadSize, Broken, TooDeep, TooLong, UnknownName, ShortTable, BadSheet}

abbrev pub query_refusal : QueryFault → Refusal
query_refusal (BadSheet f) = names_refusal f
query_refusal BadSize = record { number = 10; layer = Query; place = 0 }
query_refusal (Broken p) = record { number = 11; layer = Query; place = p }
query_refusal (TooDeep p) = record { number = 12; layer = Query; place = p }
query_refusal TooLong = record { number = 13; layer = Query; place = 0 }
query_refusal (UnknownName p) = record { number = 14; layer = Query; place = p }
query_refusal ShortTable = record { number = 15; layer = Query; place = 0 }

abbrev pub query_sentence : QueryFault → List ℕ
query_sentence (BadSheet f) = names_sentence f
query_sentence BadSize = codes "The text is empty or has too many bytes."
query_sentence (Broken p) = codes "From here on this is no query."
query_sentence (TooDeep p) = codes "With this bracket too many are open."
query_sentence TooLong = codes "There are too many steps, `and`, `or` and `not`."
query_sentence (UnknownName p) = codes "This name is not known."
query_sentence ShortTable = codes "The query table has too few places."
