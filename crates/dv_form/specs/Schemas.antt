-- What the schemas of the code say, their references read.
use Rattle.std.specs.Prelude.{map, option_map}
use Rattle.dv_form.specs.Forms as plain
use Rattle.dv_form.specs.declared.spelling.Spelling.{Spelling}
use Rattle.dv_form.specs.declared.spelling.Spelling.TheVariants.{Id, RealId, Name, NameOrStar, Text, Flag, Integer, IntegerFrom, IntegerAmong, WordAmong, Raw, Version, Token}
use Rattle.dv_form.specs.declared.form.Form.{Form}
use Rattle.dv_form.specs.declared.form.Form.TheVariants.{Value, RawValues, Object, Tuple, Values, Objects, Tuples, DistinctIntegers}
use Rattle.dv_form.specs.declared.form.Exclusion.{Exclusion}
use Rattle.dv_form.specs.declared.form.Exclusion.TheVariants.{Given, IsWord, IsNotInteger, IsSameId}
use Rattle.dv_form.specs.declared.form.Member.{Member}
use Rattle.dv_form.specs.declared.form.Case.{Case}
use Rattle.dv_form.specs.declared.form.Schema.{Schema}

-- a spelling of the code
abbrev pub spelling_of : Spelling → plain.Spelling
spelling_of Id = plain.any_id
spelling_of RealId = plain.real_id
spelling_of Name = plain.a_name
spelling_of NameOrStar = plain.a_name_or_star
spelling_of Text = plain.any_text
spelling_of Flag = plain.a_flag
spelling_of Integer = plain.any_integer
spelling_of (IntegerFrom low high) = plain.integer_from low high
spelling_of (IntegerAmong ns) = plain.integer_among ns.now
spelling_of (WordAmong words) = plain.word_among (map (λ w. w.now) words.now)
spelling_of Raw = plain.any_raw
spelling_of Version = plain.a_version
spelling_of Token = plain.a_token

-- a form of the code; a list has its items' form and its limit
abbrev pub form_of : {R : Type 0} → Form R → plain.Form R
form_of (Value s) = plain.value (spelling_of s)
form_of RawValues = plain.raw_values
form_of (Object r) = plain.object_of r
form_of (Tuple ss) = plain.tuple_of (map spelling_of ss.now)
form_of (Values s most) = plain.list_of (plain.value (spelling_of s)) most
form_of (Objects r most) = plain.list_of (plain.object_of r) most
form_of (Tuples ss most) = plain.list_of (plain.tuple_of (map spelling_of ss.now)) most
form_of DistinctIntegers = plain.distinct_integers

-- an exclusion of the code
abbrev pub exclusion_of : Exclusion → plain.Exclusion
exclusion_of (Given name) = plain.given name.now
exclusion_of (IsWord name word) = plain.is_word name.now word.now
exclusion_of (IsNotInteger name n) = plain.is_not_integer name.now n
exclusion_of (IsSameId name) = plain.is_same_id name.now

-- a line of a schema of the code
abbrev pub member_of : {R : Type 0} → Member R → plain.Member R
member_of m = record { name = m.name.now; needed = m.needed; form = form_of m.form; excluded_by = map exclusion_of m.excluded_by.now }

-- the further members under a word, as the code has them
abbrev pub case_of : {R : Type 0} → Case R → plain.Case R
case_of c = record { word = c.word.now; members = map member_of c.members.now }

-- a schema of the code
abbrev pub schema_of : {R : Type 0} → Schema R → plain.Schema R
schema_of t = record { members = map member_of t.members.now; decided_by = option_map (λ name. name.now) t.decided_by; cases = map case_of t.cases.now }
