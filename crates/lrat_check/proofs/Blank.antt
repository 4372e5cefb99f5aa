-- The entry that the check reads past the end of the entries.
use Rattle.std.proofs.Common.{false}
use Rattle.lrat_check.specs.declared.store.Entry.{Entry}

abbrev pub blank : Entry
blank = record { id = 0; start = 0; end = 0; alive = false }
