use Rattle.std.proofs.Common.{◌≡◌, ℕ, List, [], ◌∷◌, ◌++◌, Option, Some, None, chars, refl, sym, ap, append_assoc, append-nil}
use Rattle.std.specs.Option.{option_map}
use Rattle.serde_json.specs.Data.{Data, Members, no_members, member}
use Rattle.dv_value.specs.Raws.{raw_of, values_of}
use Rattle.dv_value.specs.declared.raw.Raw.{Raw}

abbrev Named : Type 0
Named = List ℕ × Raw

one_more : (done : List Named) (x : Named) (rest : Option (List Named))
    → option_map (λ values. done ++ values) (option_map (λ values. x ∷ values) rest) ≡ option_map (λ values. (done ++ x ∷ []) ++ values) rest
one_more done x None = refl
one_more done x (Some values) = ap Some (sym (append_assoc done (x ∷ []) values))

-- a member that is a raw value goes to the end of those that were read
pub values_of-member : (done : List Named) (bytes name : List ℕ) (d : Data) (ms : Members) (raw : Raw) → raw_of d ≡ Some raw → name ≡ chars bytes
    → option_map (λ values. done ++ values) (values_of (member bytes d ms)) ≡ option_map (λ values. (done ++ (name, raw) ∷ []) ++ values) (values_of ms)
unfolding values_of
values_of-member done bytes name d ms raw e n = rw (e, n) (one_more done (chars bytes, raw) (values_of ms))

-- a member that is none refuses them all
pub values_of-none : (done : List Named) (bytes : List ℕ) (d : Data) (ms : Members) → raw_of d ≡ None → option_map (λ values. done ++ values) (values_of (member bytes d ms)) ≡ None
unfolding values_of
values_of-none done bytes d ms e = rw e refl

-- no members are left
pub values_of-no_members : (done : List Named) → option_map (λ values. done ++ values) (values_of no_members) ≡ Some done
unfolding values_of
values_of-no_members done = ap Some (append-nil done)

pub option_map-nil : (o : Option (List Named)) → o ≡ option_map (λ values. [] ++ values) o
option_map-nil None = refl
option_map-nil (Some values) = refl
