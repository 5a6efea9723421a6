-- A text in which no pass finds a fault has each name resolved.
use Rattle.std.proofs.Common.{◌≡◌, ℕ, None, slice_get, Some}
use Rattle.dv_schema.specs.declared.definition.Definition.{Definition}
use Rattle.dv_schema.specs.declared.draft.Draft.{Draft}
use Rattle.dv_schema.specs.declared.draft.DraftColumn.{DraftColumn}
use Rattle.dv_schema.specs.declared.draft.DraftTable.{DraftTable}
use Rattle.dv_schema.specs.declared.opening.Entry.{Entry}
use Rattle.dv_schema.specs.declared.opening.Role.{Role}
use Rattle.dv_schema.specs.Limits.{IsWithinLimits}
use Rattle.dv_schema.specs.Sound.{IsSound}
use Rattle.dv_opening.specs.Opening.{bad_directory, refused_unit, refused_role, refused_user, refused_team}
use Rattle.dv_meta.specs.Accepted.{IsDefinitionOf}
use Rattle.dv_meta.specs.Faults.{first_fault}
use Rattle.dv_meta.specs.NameTaken.{name_taken, taken_in_tables, taken_in_relationships, takes_column}
use Rattle.dv_meta.specs.Named.{owned}
use Rattle.dv_meta.specs.Relations.{bad_cascade, ownership_clash, second_parent, empties_required, clashes, is_second}
use Rattle.dv_meta.specs.Resolved.{IsResolved, IsResolvedColumn, IsResolvedEntry}
use Rattle.dv_meta.specs.Rollups.{rollup_bad, bad_in, bad_rollup}
use Rattle.dv_meta.specs.Steps.{unknown_step, step_unknown}
use Rattle.dv_meta.specs.UnknownName.{unknown_name, unknown_in_tables, unknown_in_relationships, unknown_in_steps, unknown_in_roles, unknown_in, column_unknown, relationship_unknown, registration_unknown, role_unknown, privilege_unknown}
use Rattle.dv_meta.proofs.FoundLaws.{option_or-none, option_map-none, position-none, position_at-none, list_any-none, first_from-none}
use Rattle.dv_meta.proofs.OpeningResolvedLaws.{resolved-units, resolved-users, resolved-teams}
use Rattle.dv_meta.proofs.SoundLaws.{sound_resolved}
use Rattle.dv_meta.proofs.ResolvedLaws.{resolved-relationship, resolved-column, resolved-registration, resolved-entry}

-- no pass finds a place
record Passed (d : Draft) (steps : ℕ) : Type 0 where
  taken : name_taken d ≡ None
  unknown : unknown_name d ≡ None
  cascade : bad_cascade d ≡ None
  clash : ownership_clash d ≡ None
  second : second_parent d ≡ None
  rollup : bad_rollup d ≡ None
  step : unknown_step steps d ≡ None
  directory : bad_directory (owned d) d.opening ≡ None

passed : (d : Draft) (steps : ℕ) → first_fault d steps ≡ None → Passed d steps
unfolding first_fault
passed d steps e =
    let p1 = option_or-none _ _ e in
    let p2 = option_or-none _ _ p1.1 in
    let p3 = option_or-none _ _ p2.1 in
    let p4 = option_or-none _ _ p3.1 in
    let p5 = option_or-none _ _ p4.1 in
    let p6 = option_or-none _ _ p5.1 in
    let p7 = option_or-none _ _ p6.1 in
    record {
      taken = option_map-none _ _ p1.0;
      unknown = option_map-none _ _ p2.0;
      cascade = option_map-none _ _ p3.0;
      clash = option_map-none _ _ p4.0;
      second = option_map-none _ _ p5.0;
      rollup = option_map-none _ _ p6.0;
      step = option_map-none _ _ p7.0;
      directory = option_map-none _ _ p7.1;
    }

-- each part of the pass over names finds none
record Known (d : Draft) : Type 0 where
  tables : unknown_in_tables d ≡ None
  relationships : unknown_in_relationships d ≡ None
  steps : unknown_in_steps d ≡ None
  roles : unknown_in_roles d ≡ None

known : (d : Draft) → unknown_name d ≡ None → Known d
unfolding unknown_name
known d e =
    let p1 = option_or-none (unknown_in_tables d) _ e in
    let p2 = option_or-none (unknown_in_relationships d) _ p1.1 in
    let p3 = option_or-none (unknown_in_steps d) (unknown_in_roles d) p2.1 in
    record { tables = p1.0; relationships = p2.0; steps = p3.0; roles = p3.1 }

-- each part of the opening directory is made
record Made (d : Draft) : Type 0 where
  units : refused_unit d.opening ≡ None
  users : refused_user d.opening ≡ None
  teams : refused_team d.opening ≡ None

made-all : (d : Draft) → bad_directory (owned d) d.opening ≡ None → Made d
unfolding bad_directory
made-all d e =
    let p1 = option_or-none (refused_unit d.opening) _ e in
    let p2 = option_or-none (refused_role (owned d) d.opening) _ p1.1 in
    let p3 = option_or-none (refused_user d.opening) (refused_team d.opening) p2.1 in
    record { units = p1.0; users = p3.0; teams = p3.1 }

relationship-taken : (d : Draft) → name_taken d ≡ None → taken_in_relationships d ≡ None
unfolding name_taken
relationship-taken d e = (option_or-none (taken_in_tables d) (taken_in_relationships d) e).1

columns-resolved : (d : Draft) → unknown_in_tables d ≡ None → bad_rollup d ≡ None
    → (i : ℕ) (t : DraftTable) → slice_get d.tables i ≡ Some t → (j : ℕ) (c : DraftColumn) → slice_get t.columns j ≡ Some c → IsResolvedColumn d t c
unfolding unknown_in_tables bad_rollup unknown_in bad_in
columns-resolved d unknown bad i t at j c at_column =
    let here = option_map-none _ _ (first_from-none (unknown_in d) 0 d.tables unknown i t at) in
    let good = option_map-none _ _ (first_from-none (bad_in d) 0 d.tables bad i t at) in
    resolved-column d t c (position-none (column_unknown d t) t.columns here j c at_column) (position-none (rollup_bad d t) t.columns good j c at_column)

entries-resolved : (d : Draft) → unknown_in_roles d ≡ None → (k : ℕ) (role : Role) → slice_get d.opening.roles k ≡ Some role → (j : ℕ) (entry : Entry) → slice_get role.entries j ≡ Some entry → IsResolvedEntry d entry
unfolding unknown_in_roles role_unknown
entries-resolved d unknown k role at j entry at_entry =
    resolved-entry d entry (list_any-none (λ e. privilege_unknown d e.table) role.entries (position-none (role_unknown d) d.opening.roles (option_map-none _ _ unknown) k role at) j entry at_entry)

pub resolved_faultless : (d : Draft) (steps : ℕ) → first_fault d steps ≡ None → IsResolved d steps
unfolding taken_in_relationships unknown_in_relationships unknown_in_steps bad_cascade ownership_clash second_parent unknown_step
resolved_faultless d steps e =
    let passes = passed d steps e in
    let names = known d passes.unknown in
    let directory = made-all d passes.directory in
    let taken = relationship-taken d passes.taken in
    record {
      relationships = λ k r at. resolved-relationship d k r at
          (position_at-none (takes_column d) d.relationships (option_map-none _ _ taken) k r at)
          (position-none (relationship_unknown d) d.relationships (option_map-none _ _ names.relationships) k r at)
          (position-none (empties_required d) d.relationships (option_map-none _ _ passes.cascade) k r at)
          (position-none (clashes d) d.relationships (option_map-none _ _ passes.clash) k r at)
          (position_at-none (is_second d) d.relationships (option_map-none _ _ passes.second) k r at);
      columns = columns-resolved d names.tables passes.rollup;
      registrations = λ k g at. resolved-registration d steps g
          (position-none (registration_unknown d) d.steps (option_map-none _ _ names.steps) k g at)
          (position-none (step_unknown steps) d.steps (option_map-none _ _ passes.step) k g at);
      entries = entries-resolved d names.roles;
      units = resolved-units d.opening directory.units;
      users = resolved-users d.opening directory.users;
      teams = resolved-teams d.opening directory.teams;
    }

pub sound_faultless : (d : Draft) (definition : Definition) (steps : ℕ) → IsWithinLimits d → first_fault d steps ≡ None → IsDefinitionOf d definition → IsSound definition
sound_faultless d definition steps limits e meaning = sound_resolved d definition steps limits meaning (resolved_faultless d steps e) (passed d steps e).taken
