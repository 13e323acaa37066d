-- Children by their names, as the code holds them; for private clauses.
use Rattle.std.specs.Prelude.{List, map, string_bytes, String}
use Rattle.std.specs.declared.alloc.Global.{Global}
use Rattle.dir_codec.specs.declared.entry.Entry.{Entry}
use Rattle.children_reader.specs.declared.child.Child.{Child}

abbrev pub entry_of_child : String Global × Child → Entry
entry_of_child named = record { name = string_bytes named.0; cap = named.1.cap; metadata = named.1.metadata }

abbrev pub entries_of : List (String Global × Child) → List Entry
entries_of children = map entry_of_child children
