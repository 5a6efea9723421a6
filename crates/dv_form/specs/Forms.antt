-- What a JSON value may be asked to look like: the spelling of a value without parts, and the schema of an object.
use Rattle.std.specs.Prelude.{ℕ, ℤ, List, Bool, Option}

-- how a value without parts is spelled
pub data Spelling : Type 0 where
  any_id : Spelling
  real_id : Spelling
  a_name : Spelling
  a_name_or_star : Spelling
  any_text : Spelling
  a_flag : Spelling
  any_integer : Spelling
  integer_from : ℤ → ℤ → Spelling
  integer_among : List ℤ → Spelling
  word_among : List (List ℕ) → Spelling
  any_raw : Spelling
  a_version : Spelling
  a_token : Spelling

-- what a value looks like; an R names the schema of an object
pub data Form (R : Type 0) : Type 0 where
  value : Spelling → Form R
  raw_values : Form R
  object_of : R → Form R
  tuple_of : List Spelling → Form R
  list_of : Form R → Option ℕ → Form R
  distinct_integers : Form R

-- what excludes a member: another member is given, is a word, isn't an integer, or is the same id
pub data Exclusion : Type 0 where
  given : List ℕ → Exclusion
  is_word : List ℕ → List ℕ → Exclusion
  is_not_integer : List ℕ → ℤ → Exclusion
  is_same_id : List ℕ → Exclusion

-- a line of a schema: a member
pub record Member (R : Type 0) : Type 0 where
  pub name : List ℕ
  pub needed : Bool
  pub form : Form R
  pub excluded_by : List Exclusion

-- the further members under a word
pub record Case (R : Type 0) : Type 0 where
  pub word : List ℕ
  pub members : List (Member R)

-- the schema of an object: the members that it always has, and the member whose word says what further ones there are
pub record Schema (R : Type 0) : Type 0 where
  pub members : List (Member R)
  pub decided_by : Option (List ℕ)
  pub cases : List (Case R)
