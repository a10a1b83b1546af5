-- What is left of a text's records, read one by one.
use Rattle.std.proofs.Common.{◌≡◌, ◌∙◌, ◌+◌, ◌<◌, ◌≤◌, ◌⊎◌, [], ◌∷◌, ℕ, Bool, true, false, List, length, Option, Some, None, refl, sym, ap, inl, inr, arith, add-one, cond, zero, suc, ◌==◌, ◌||◌}
use Rattle.script.proofs.Chosen.{either_way}
use Rattle.csv.specs.Machine.{Read, ends_at_end, in_field, is_end, next_record, start_field, start_record, step}
use Rattle.std.proofs.Common.{Bor}
use Rattle.csv.specs.Reading.{ExplainsRead, NextIs, ReadRecord, ReadsNext, default_config, is_flexible, records_from, records_next}
use Rattle.csv.specs.declared.parser.Action.{Action}
use Rattle.csv.specs.declared.error.ErrorKind.{ErrorKind}
use Rattle.csv.specs.declared.error.ErrorKind.TheVariants as error
use Rattle.std.specs.declared.io.Error.{Error}
use Rattle.csv.specs.declared.parser.State.{State}
use Rattle.csv.specs.declared.parser.State.TheVariants as st
use Rattle.script.specs.Reading.{IsBetween, TextReader, records_after, records_in, unread}
use Rattle.script.specs.Records.{Fields}

-- a step that ends a record leaves the reader between two records
abbrev Rests : State × Action → Type 0
Rests p = is_end p.1 ≡ true → ends_at_end p.0 ≡ false

in_field_rests : (c : ℕ) → Rests (in_field default_config c)
in_field_rests c =
    either_way Rests (c == 44) _ _ (λ h. cc h)
    (either_way Rests ((c == 13) || (c == 10)) _ _ (λ _. either_way (λ (s : State). ends_at_end s ≡ false) (c == 13) st.AfterCr st.StartRecord refl refl) (λ h. cc h))

start_field_rests : (c : ℕ) → Rests (start_field default_config c)
start_field_rests c = either_way Rests (c == 34) _ _ (λ h. cc h) (in_field_rests c)

start_record_rests : (c : ℕ) → Rests (start_record default_config c)
start_record_rests c = either_way Rests ((c == 13) || (c == 10)) _ _ (λ h. cc h) (start_field_rests c)

step_rests : (s : State) (c : ℕ) → Rests (step default_config s c)
step_rests st.StartRecord c = start_record_rests c
step_rests st.StartField c = start_field_rests c
step_rests st.InField c = in_field_rests c
step_rests st.InQuoted c = either_way Rests (c == 34) _ _ (λ h. cc h) (λ h. cc h)
step_rests st.InEscape c = λ h. cc h
step_rests st.AfterQuote c = either_way Rests (c == 34) _ _ (λ h. cc h) (in_field_rests c)
step_rests st.InComment c = either_way Rests (c == 10) _ _ (λ h. cc h) (λ h. cc h)
step_rests st.AfterCr c = either_way Rests (c == 10) _ _ (λ h. cc h) (start_record_rests c)

-- a record that was read leaves the reader between two records, and no more bytes than there were
abbrev Leaves : ℕ → Option Read → Type 0
Leaves most o = (q : Read) → o ≡ Some q → (ends_at_end q.1 ≡ false) × (length q.2 ≤ most)

leaves_record : (most : ℕ) (p : Read) → ends_at_end p.1 ≡ false → length p.2 ≤ most → Leaves most (Some p)
leaves_record most p rests fits q e =
    let same : p ≡ q = cc in
    (ap (λ (r : Read). ends_at_end r.1) (sym same) ∙ rests, rw (sym same) fits)

leaves_none : (most : ℕ) → Leaves most None
leaves_none most q e = cc e

leaves_chosen : (most : ℕ) (b : Bool) (x y : Option Read) → (b ≡ true → Leaves most x) → (b ≡ false → Leaves most y) → Leaves most (cond b x y)
leaves_chosen most true x y p q = p refl
leaves_chosen most false x y p q = q refl

leaves_more : (most more : ℕ) (o : Option Read) → most ≤ more → Leaves most o → Leaves more o
leaves_more most more o h p q e = ((p q e).0, (let k : length q.2 ≤ most = (p q e).1 in omega arith))

next_leaves : (s : State) (fields : List (List ℕ)) (field text : List ℕ) → Leaves (length text) (next_record default_config s fields field text)
unfolding next_record
next_leaves s fields field [] = either_way (Leaves 0) (ends_at_end s) _ _ (leaves_record 0 _ refl (omega arith)) (leaves_none 0)
next_leaves s fields field (c ∷ rest) =
    leaves_chosen (length (c ∷ rest)) (is_end (step default_config s c).1) _ _
    (λ ends. leaves_record _ _ (step_rests s c ends) (omega arith))
    (λ _. leaves_more (length rest) _ _ (omega arith) (next_leaves (step default_config s c).0 _ _ rest))

-- from between two records, a record takes a byte at least
next_shorter : (s : State) (text : List ℕ) (q : Read) → ends_at_end s ≡ false → next_record default_config s [] [] text ≡ Some q → length q.2 < length text
unfolding next_record
next_shorter s [] q rests e = cc (rw rests at e)
next_shorter s (c ∷ rest) q rests e =
    let at_most = leaves_chosen (length rest) (is_end (step default_config s c).1) _ _
    (λ ends. leaves_record _ _ (step_rests s c ends) (omega arith))
    (λ _. next_leaves (step default_config s c).0 _ _ rest) q e in
    omega (arith, at_most.1)

next_same : (o : Option Read) (more more2 : State → List ℕ → List Fields) → ((q : Read) → o ≡ Some q → more q.1 q.2 ≡ more2 q.1 q.2) → records_next more o ≡ records_next more2 o
next_same None more more2 h = refl
next_same (Some q) more more2 h = ap (λ rows. q.0 ∷ rows) (h q refl)

-- beyond the number of bytes, how many records are asked for makes no difference
enough_records : (n m : ℕ) (s : State) (text : List ℕ) → ends_at_end s ≡ false → length text < n → length text < m
    → records_from default_config n s text ≡ records_from default_config m s text
unfolding records_from
enough_records zero m s text rests p q = absurd (omega arith)
enough_records (suc n) zero s text rests p q = absurd (omega arith)
enough_records (suc n) (suc m) s text rests p q =
    next_same (next_record default_config s [] [] text) _ _
    (λ r e. let lower = next_shorter s text r rests e in
    enough_records n m r.1 r.2 (next_leaves s [] [] text r e).0 (omega arith) (omega arith))

-- the next record is the first of those that are left
pub records_after-more : (s : State) (text : List ℕ) (q : Read) → ends_at_end s ≡ false → next_record default_config s [] [] text ≡ Some q
    → records_after s text ≡ q.0 ∷ records_after q.1 q.2
unfolding records_after records_from
records_after-more s text q rests e =
    let lower = next_shorter s text q rests e in
    let first : records_from default_config (length text + 1) s text ≡ records_next (records_from default_config (length text)) (next_record default_config s [] [] text) = rw add-one refl in
    first ∙ rw e (ap (λ rows. q.0 ∷ rows) (enough_records (length text) (length q.2 + 1) q.1 q.2 (next_leaves s [] [] text q e).0 lower (omega arith)))

pub records_after-none : (s : State) (text : List ℕ) → next_record default_config s [] [] text ≡ None → records_after s text ≡ []
unfolding records_after records_from
records_after-none s text e =
    let first : records_from default_config (length text + 1) s text ≡ records_next (records_from default_config (length text)) (next_record default_config s [] [] text) = rw add-one refl in
    first ∙ rw e refl

pub next_rests : (s : State) (text : List ℕ) (q : Read) → next_record default_config s [] [] text ≡ Some q → ends_at_end q.1 ≡ false
next_rests s text q e = (next_leaves s [] [] text q e).0

-- what one read shows, where the bytes before it are known
next_some : (o : Option Read) (fields : Fields) (s : State) (z : List ℕ) → NextIs o true fields s z → (q : Read) × (o ≡ Some q) × (fields ≡ q.0) × (s ≡ q.1) × (z ≡ q.2)
next_some None fields s z n = cc n
next_some (Some q) fields s z n = (q, refl, n.1, n.2, n.3)

next_none : (o : Option Read) (fields : Fields) (s : State) (z : List ℕ) → NextIs o false fields s z → o ≡ None
next_none None fields s z n = refl
next_none (Some q) fields s z n = cc n.0

left_with : (s s2 : State) (text z : List ℕ) (fields : Fields) (q : Read) → fields ≡ q.0 → s2 ≡ q.1 → z ≡ q.2 → records_after s text ≡ q.0 ∷ records_after q.1 q.2
    → records_after s text ≡ fields ∷ records_after s2 z
left_with s s2 text z fields q a b d more = rw (a, b, d) more

found_in : (s s2 : State) (text : List ℕ) (fields : Fields) (rest : Option (List ℕ)) → ends_at_end s ≡ false → ReadsNext default_config s (Some text) rest true fields s2
    → (z : List ℕ) × (rest ≡ Some z) × (ends_at_end s2 ≡ false) × (records_after s text ≡ fields ∷ records_after s2 z)
found_in s s2 text fields None rests r = absurd r
found_in s s2 text fields (Some z) rests r =
    let (q, is, same_fields, same_state, same_rest) = next_some _ fields s2 z r in
    (z, refl, rw same_state (next_rests s text q is), left_with s s2 text z fields q same_fields same_state same_rest (records_after-more s text q rests is))

ended_in : (s s2 : State) (text : List ℕ) (fields : Fields) (rest : Option (List ℕ)) → ReadsNext default_config s (Some text) rest false fields s2 → records_after s text ≡ []
ended_in s s2 text fields None r = absurd r
ended_in s s2 text fields (Some z) r = records_after-none s text (next_none _ fields s2 z r)

-- a reader that finds a record gives the first of those that are left
pub found_record : (a b : TextReader) (fields : Fields) → IsBetween a → ReadRecord (λ (s : Bor (List ℕ)). Some s.now) a b true fields → b.first ≡ true → is_flexible b ≡ is_flexible a
    → IsBetween b × (records_in a.state (unread a) ≡ fields ∷ records_in b.state (unread b))
found_record a b fields between r first same =
    let (z, rest, rests, more) = found_in a.state b.state between.text fields _ between.rests (rw (between.config, between.known) at r.0) in
    let known : unread b ≡ Some z = rw r.1 rest in
    (record { plain = r.3 ∙ between.plain; flexible = same ∙ between.flexible; ready = inl first; config = r.2 ∙ between.config; text = z; known = known; rests = rests }, rw (between.known, known) more)

-- one that finds none has none left
pub found_no_record : (a b : TextReader) (fields : Fields) → IsBetween a → ReadRecord (λ (s : Bor (List ℕ)). Some s.now) a b false fields
    → records_in a.state (unread a) ≡ []
found_no_record a b fields between r =
    rw between.known (ended_in a.state b.state between.text fields _ (rw (between.config, between.known) at r.0))

-- a reader that isn't done stands between two records
pub stands_between : (done : Bool) (r : TextReader) → done ≡ false → (done ≡ true) ⊎ IsBetween r → IsBetween r
stands_between done r e (inl is) = cc
stands_between done r e (inr between) = between

-- a reader that takes records of any length, as bytes, has no error of its own: either what it reads from failed, or memory ran out
pub no_other_error : (a b : TextReader) (kind : ErrorKind) → IsBetween a → ExplainsRead (λ (s : Bor (List ℕ)). Some s.now) a b false kind
    → ((e : Error) → kind ≡ error.Io e → ⊥) → (kind ≡ error.OutOfMemory → ⊥) → ⊥
no_other_error a b (error.Io e) between why not_io not_memory = not_io e refl
no_other_error a b error.OutOfMemory between why not_io not_memory = not_memory refl
no_other_error a b (error.UnequalLengths pos expected len) between why not_io not_memory = let flexible = between.flexible in let stiff = why.0 in cc
no_other_error a b (error.Utf8 pos err) between why not_io not_memory = let text = why.0 in cc
no_other_error a b (error.Serialize text) between why not_io not_memory = why
no_other_error a b (error.Deserialize pos err) between why not_io not_memory = why
