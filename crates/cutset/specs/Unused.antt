-- What stands in the unused places of a table.
use Rattle.cutset.specs.declared.pick.Pick.{Pick}

abbrev pub no_pick : Pick
no_pick = record { measure = 0; share = 0 }
