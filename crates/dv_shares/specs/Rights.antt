-- What becomes of the rights of one grant.
use Rattle.std.specs.Prelude.{ℕ, Bool, true, false, ◌&&◌, ◌==◌, Option, None, Some, if◌then◌else◌}
use Rattle.std.specs.Int.RustNames.{bit_or}
use Rattle.dv_store.specs.World.{is_none}
use Rattle.dv_shares.specs.declared.change.Rights.{Rights}
use Rattle.dv_shares.specs.declared.change.Change.{Change}
use Rattle.dv_shares.specs.declared.change.Change.TheVariants.{AddDirect, AddInherited, Clear, ClearInherited}

-- the rights after a change: a mask joins the direct or the inherited ones, all of them go, or the inherited ones go
unfoldable pub changed : Change → Rights → Rights
changed (AddDirect mask) rights = record { direct = bit_or rights.direct mask; inherited = rights.inherited }
changed (AddInherited mask) rights = record { direct = rights.direct; inherited = bit_or rights.inherited mask }
changed Clear rights = record { direct = 0; inherited = 0 }
changed ClearInherited rights = record { direct = rights.direct; inherited = 0 }

-- whether a change adds rights
unfoldable pub adds : Change → Bool
adds (AddDirect mask) = true
adds (AddInherited mask) = true
adds Clear = false
adds ClearInherited = false

-- whether both rights are the same
abbrev pub are_same : Rights → Rights → Bool
are_same a b = (a.direct == b.direct) && (a.inherited == b.inherited)

-- the rights of a grant; zeros where there is none
abbrev pub rights_of : Option (ℕ × ℕ) → Rights
rights_of None = record { direct = 0; inherited = 0 }
rights_of (Some rights) = record { direct = rights.0; inherited = rights.1 }

-- a grant of rights; zeros are no grant
abbrev pub grant_of : Rights → Option (ℕ × ℕ)
grant_of rights = if is_none rights.direct rights.inherited then None else Some (rights.direct, rights.inherited)

-- a grant after a change of its rights; it stays where they stay
unfoldable pub regrant : Change → Option (ℕ × ℕ) → Option (ℕ × ℕ)
regrant change grant =
    let before = rights_of grant in
    let after = changed change before in
    if are_same after before then grant else grant_of after
