-- The names and bodies of a folder in memory, as its fields keep them.
use Rattle.std.specs.Prelude.{◌≡◌, ℕ, ℤ, Bool, List, map, Option, None, Some, Vec, String, string_bytes}
use Rattle.std.specs.declared.alloc.Global.{Global}
use Rattle.std.specs.BTreeMap.{BTreeMap}
use Rattle.std.specs.FinMap as fin
use Rattle.appender_store.specs.Content.{Content, NameMap, Entry, File, Link, Folder}
use Rattle.appender_store.specs.declared.store.entries.Item.{Item}
use Rattle.appender_store.specs.declared.store.entries.Item.TheVariants.{Plain as PlainItem, Link as LinkItem, Folder as FolderItem}
use Rattle.appender_store.specs.declared.store.entries.Look.{Look}
use Rattle.appender_store.specs.declared.store.entries.Look.TheVariants.{Free, Plain as PlainSeen, Link as LinkSeen, Folder as FolderSeen}

-- what a stored item represents
abbrev pub entry_of : Item → Entry
entry_of (PlainItem body created) = File body created
entry_of (LinkItem target) = Link (string_bytes target)
entry_of FolderItem = Folder

-- a name as bytes, with its entry
abbrev pub named_entry : String Global × Item → List ℕ × Entry
named_entry e = (string_bytes e.0, entry_of e.1)

-- the names that the code's map represents
abbrev pub names_of : BTreeMap (String Global) Item → NameMap
names_of m = fin.from_entries (map named_entry m.entries)

-- the bodies' bytes
abbrev pub bodies_of : Vec (Vec ℕ Global) Global → List (List ℕ)
bodies_of v = map (λ b. b.items) v.items

-- the content that these parts represent
abbrev pub content_of : Bool → Vec (Vec ℕ Global) Global → BTreeMap (String Global) Item → Content
content_of there bodies names = record { there = there; bodies = bodies_of bodies; names = names_of names }

-- what a name leads to, with its number
abbrev pub IsLookOf : Option Entry → Look → Type 0
IsLookOf entry Free = entry ≡ None
IsLookOf entry (PlainSeen b) = (t : Option ℤ) × (entry ≡ Some (File b t))
IsLookOf entry (LinkSeen target) = entry ≡ Some (Link target.now)
IsLookOf entry FolderSeen = entry ≡ Some Folder
