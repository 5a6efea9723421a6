-- A first line begins an organisation, or is refused, and not both.
use Rattle.std.proofs.Math.Bridge.{le_prop}
use Rattle.std.proofs.Common.{◌≡◌, ◌≤◌, length, ℕ, true, false, List, Some, None, Ok, Err, sym, ap, ◌∙◌, subst}
use Rattle.dv_refusal.specs.declared.refusal.Refusal.{Refusal}
use Rattle.dv_schema.specs.declared.definition.Definition.{Definition}
use Rattle.dv_schema.specs.declared.opening.Opening.{Opening}
use Rattle.dv_schema.specs.declared.registration.Registration.{Registration}
use Rattle.dv_schema.specs.declared.relationship.Relationship.{Relationship}
use Rattle.dv_schema.specs.declared.table.Table.{Table}
use Rattle.dv_schema.specs.Limits.{most_tables}
use Rattle.dv_meta.specs.Reader.{IsAccepted, first_fault_of}
use Rattle.dv_roles.specs.State.{State}
use Rattle.dv_service.specs.Opening.{has_later, Begins, Declines, long, faulty, later}
use Rattle.dv_service.specs.Organisations.{Organisation}

none_some : {A : Type 0} (x : A) → None ≡ Some x → ⊥
none_some x is = cc

same_some : {A : Type 0} (x y : A) → Some x ≡ Some y → x ≡ y
same_some x y is = cc

false_true : false ≡ true → ⊥
false_true is = cc

ok_err : (d : State) (refusal : Refusal) → Ok d ≡ Err refusal → ⊥
ok_err d refusal is = cc

-- a definition is its parts; that it has few tables is said in one way
same_tables : (t : List Table) (r : List Relationship) (s : List Registration) (o : Opening) (few : length t ≤ most_tables) (u : List Table) → t ≡ u → (less : length u ≤ most_tables)
    → ◌≡◌ {A = Definition} (record { tables = t; relationships = r; steps = s; opening = o; few = few }) (record { tables = u; relationships = r; steps = s; opening = o; few = less })
same_tables t r s o few u is =
    subst (λ v. (less : length v ≤ most_tables) → ◌≡◌ {A = Definition} (record { tables = t; relationships = r; steps = s; opening = o; few = few })
    (record { tables = v; relationships = r; steps = s; opening = o; few = less })) is
    (λ less. ap (λ (f : length t ≤ most_tables). record { tables = t; relationships = r; steps = s; opening = o; few = f }) (le_prop few less))

same_parts : (a b : Definition) → a.tables ≡ b.tables → a.relationships ≡ b.relationships → a.steps ≡ b.steps → a.opening ≡ b.opening → a ≡ b
same_parts a b tables relationships steps opening =
    same_tables a.tables a.relationships a.steps a.opening a.few b.tables tables b.few
    ∙ ap (λ r. record { tables = b.tables; relationships = r; steps = a.steps; opening = a.opening; few = b.few }) relationships
    ∙ ap (λ s. record { tables = b.tables; relationships = b.relationships; steps = s; opening = a.opening; few = b.few }) steps
    ∙ ap (λ o. record { tables = b.tables; relationships = b.relationships; steps = b.steps; opening = o; few = b.few }) opening

-- a text has one definition
one_definition : (bytes : List ℕ) (a b : Definition) → IsAccepted bytes 0 a → IsAccepted bytes 0 b → a ≡ b
one_definition bytes a b first second = same_parts a b
    (first.meaning.tables ∙ sym second.meaning.tables)
    (first.meaning.relationships ∙ sym second.meaning.relationships)
    (first.meaning.steps ∙ sym second.meaning.steps)
    (first.meaning.opening ∙ sym second.meaning.opening)

pub Begins-or-declines : (line : List ℕ) (org : Organisation) (kind place : List ℕ) → Begins line org → Declines line kind place → ⊥
Begins-or-declines line org kind place begins (long none kind_is place_is) = none_some begins.bytes (sym none ∙ begins.short)
Begins-or-declines line org kind place begins (faulty bytes fault short is kind_is) =
    let one = same_some begins.bytes bytes (sym begins.short ∙ short) in
    none_some _ (sym begins.accepted.faultless ∙ ap (λ b. first_fault_of b 0) one ∙ is)
Begins-or-declines line org kind place begins (later bytes definition short accepted is kind_is place_is) =
    let one = same_some begins.bytes bytes (sym begins.short ∙ short) in
    let same_definition = one_definition begins.bytes definition org.definition (subst (λ b. IsAccepted b 0 definition) (sym one) accepted) begins.accepted in
    false_true (sym begins.built ∙ ap has_later (sym same_definition) ∙ is)
