-- What a folder contains, and what each call does to it.
use Rattle.std.specs.Prelude.{◌≡◌, ◌⊎◌, ℕ, ◌<◌, ℤ, Bool, true, false, List, [], ◌∷◌, ◌++◌, length, Option, None, Some, slice_index_or, slice_set, IsSome, is_some}
use Rattle.std.specs.Ordering.{nat_cmp}
use Rattle.std.specs.Cmp.Lexicographic.{slice_cmp}
use Rattle.std.specs.FinMap as map

-- what a name leads to: a file with its body's number and its creation moment, a link with its target, or a folder
pub data Entry : Type 0 where
  File : (body : ℕ) (created : Option ℤ) → Entry
  Link : (target : List ℕ) → Entry
  Folder : Entry

-- names are bytes, in byte order
abbrev pub NameMap : Type 0
NameMap = map.FinMap (slice_cmp nat_cmp) Entry

-- A folder: whether it exists, the bodies of files by number, which only grow, and its names.
pub record Content : Type 0 where
  pub there : Bool
  pub bodies : List (List ℕ)
  pub names : NameMap

-- what a body holds; one that isn't there holds nothing
abbrev pub body_at : Content → ℕ → List ℕ
body_at c b = slice_index_or c.bodies b []

-- An absent folder has no name; each file's body is there, and no body has two names. That a body whose name
-- was removed gets none again isn't said here but by `OpensBody`, under which a free name gets a new body.
pub record IsSound (c : Content) : Type 0 where
  pub absent : c.there ≡ false → (name : List ℕ) → is_some (map.get c.names name) ≡ false
  pub bodies_there : (name : List ℕ) (b : ℕ) (t : Option ℤ) → map.get c.names name ≡ Some (File b t) → b < length c.bodies
  pub one_name : (n m : List ℕ) (b : ℕ) (t u : Option ℤ) → map.get c.names n ≡ Some (File b t) → map.get c.names m ≡ Some (File b u) → n ≡ m

-- a name that leads to a file is removed, its body stays
pub record Removes (name : List ℕ) (old new : Content) : Type 0 where
  pub was_there : (b : ℕ) × (t : Option ℤ) × (map.get old.names name ≡ Some (File b t))
  pub after : new ≡ record old { names = map.remove old.names name }

-- The file of this name is open, with the body of this number: its own, or for a free name a new empty one, so that a body
-- whose name was removed gets none again.
abbrev pub OpensBody : List ℕ → Content → Content → ℕ → Type 0
OpensBody name old new b =
    (old.there ≡ true) × (((t : Option ℤ) × (map.get old.names name ≡ Some (File b t)) × (new ≡ old))
    ⊎ ((t : Option ℤ) × (map.get old.names name ≡ None) × (b ≡ length old.bodies) × (new ≡ record old { bodies = old.bodies ++ [] ∷ []; names = map.insert old.names name (File b t) })))

-- a link of this name is removed
pub record RemovesLink (name : List ℕ) (old new : Content) : Type 0 where
  pub was_there : (target : List ℕ) × (map.get old.names name ≡ Some (Link target))
  pub after : new ≡ record old { names = map.remove old.names name }

-- a link of this name, which was free, leads to the target
pub record MakesLink (name target : List ℕ) (old new : Content) : Type 0 where
  pub there : old.there ≡ true
  pub was_free : map.get old.names name ≡ None
  pub after : new ≡ record old { names = map.insert old.names name (Link target) }

-- these bytes are at the end of the body
abbrev pub after_append : Content → ℕ → List ℕ → Content
after_append c b bytes = record c { bodies = slice_set c.bodies b (body_at c b ++ bytes) }

-- the folder is there
abbrev pub after_make_folder : Content → Content
after_make_folder c = record c { there = true }

-- the name leads to a link or to a folder
abbrev pub IsLinkOrFolder : Option Entry → Type 0
IsLinkOrFolder None = ⊥
IsLinkOrFolder (Some (File b t)) = ⊥
IsLinkOrFolder (Some (Link t)) = Unit {0}
IsLinkOrFolder (Some Folder) = Unit {0}

-- the name leads to a link
abbrev pub IsLink : Option Entry → Type 0
IsLink None = ⊥
IsLink (Some (File b t)) = ⊥
IsLink (Some (Link t)) = Unit {0}
IsLink (Some Folder) = ⊥

-- the name leads to a file
abbrev pub IsFile : Option Entry → Type 0
IsFile None = ⊥
IsFile (Some (File b t)) = Unit {0}
IsFile (Some (Link t)) = ⊥
IsFile (Some Folder) = ⊥

-- when the content forbids a call
abbrev pub ForbidsOpen : List ℕ → Content → Type 0
ForbidsOpen name c = (c.there ≡ false) ⊎ IsLinkOrFolder (map.get c.names name)

abbrev pub ForbidsRemove : List ℕ → Content → Type 0
ForbidsRemove name c = (c.there ≡ false) ⊎ (¬ IsFile (map.get c.names name))

abbrev pub ForbidsRemoveLink : List ℕ → Content → Type 0
ForbidsRemoveLink name c = (c.there ≡ false) ⊎ (¬ IsLink (map.get c.names name))

abbrev pub ForbidsMakeLink : List ℕ → Content → Type 0
ForbidsMakeLink name c = (c.there ≡ false) ⊎ IsSome (map.get c.names name)

abbrev pub ForbidsList : Content → Type 0
ForbidsList c = c.there ≡ false
