-- What a list in fixed memory stands for.
use Rattle.std.specs.Prelude.{List, take}
use Rattle.cutset.specs.declared.fixed_list.FixedList.{FixedList}

-- the items, in order
abbrev pub listed : {T : Type 0} {N : _} → FixedList T N → List T
listed l = take l.len l.places
