-- Lines that are read, and the reply that they give.
use Rattle.std.proofs.Common.{◌≡◌, ◌⊎◌, inl, inr, ℕ, List, [], ◌∷◌, ◌++◌, Bool, true, false, ◌&&◌, ◌||◌, Option, Some, None, Result, Ok, Err, IfOk, OnOk, refl, sym, ap, subst, ◌∙◌}
use Rattle.std.specs.declared.alloc.AllocError.{AllocError}
use Rattle.std.specs.List.{list_any}
use Rattle.std.specs.Option.{option_or}
use Rattle.s3_cards.specs.declared.levels.LevelId.{LevelId}
use Rattle.s3_cards.specs.declared.levels.LevelId.TheVariants.{One, Two}
use Rattle.s3_cards.specs.declared.name.Name.{Name}
use Rattle.s3_operator.specs.declared.halt_code.HaltCode.{HaltCode}
use Rattle.s3_operator.specs.Replies.{is_allowed}
use Rattle.s3_replies.specs.declared.listed.Listed.TheVariants.{Line}
use Rattle.s3_replies.specs.declared.typed.Typed.{Typed}
use Rattle.s3_replies.specs.declared.typed.Typed.TheVariants as typed
use Rattle.s3_replies.specs.Inner.Listed.{GivesNext}
use Rattle.s3_replies.specs.Inner.Rules.{same_level}
use Rattle.s3_operating.specs.declared.answers.Question.{Question}
use Rattle.s3_operating.specs.declared.levels.Said.{Said}
use Rattle.s3_operating.specs.declared.levels.Said.TheVariants as outcome
use Rattle.s3_operating.specs.declared.replies.Sources.{Sources}
use Rattle.s3_operating.specs.Inner.Answering.{Answers, ComesOfCommand, ComesOfDigit, ComesOfLine, ComesOfLines, GetsReply, HasAgreed, HasReplied, Hears, HearsLine, IsAnswer, IsAnswered, IsConfirmed, IsShown, KeepsSources, LinesAreRead, PassesOver, ReadsAside, ReadsReply, SaysReply, ShowsHalt, ahead_for, answers, given_to, question_of, reply_in, with_halt, with_reply}

-- ---- lines that were read
joined : (lines more : List Typed) (old middle new : Option (List ℕ)) → LinesAreRead lines old middle → LinesAreRead more middle new → LinesAreRead (lines ++ more) old new
joined [] more old middle new same next = subst (λ bytes. LinesAreRead more bytes new) same next
joined (line ∷ lines) more old middle new read next = (read.0, (read.1.0, joined lines more read.0 middle new read.1.1 next))

none_joined : (lines more : List Typed) → lines ≡ [] → more ≡ [] → lines ++ more ≡ []
none_joined [] more none other = other
none_joined (line ∷ lines) more none other = cc

or_none : (one other : Bool) → one ≡ false → other ≡ false → (one || other) ≡ false
or_none false other none more = more
or_none true other none more = cc

or_first : (one other : Bool) → (one || other) ≡ false → one ≡ false
or_first false other none = refl
or_first true other none = cc

or_second : (one other : Bool) → (one || other) ≡ false → other ≡ false
or_second false other none = none
or_second true other none = cc

any_joined : (question : Question) (lines more : List Typed) → list_any (answers question) lines ≡ false → list_any (answers question) more ≡ false → list_any (answers question) (lines ++ more) ≡ false
any_joined question [] more none other = other
any_joined question (line ∷ lines) more none other =
    or_none (answers question line) (list_any (answers question) (lines ++ more)) (or_first (answers question line) (list_any (answers question) lines) none)
    (any_joined question lines more (or_second (answers question line) (list_any (answers question) lines) none) other)

pub aside_none : (asks : Bool) (bytes : Option (List ℕ)) → ReadsAside asks bytes bytes
aside_none asks bytes = record { lines = []; are_read = refl; are_persons = λ list. refl }

pub aside_same : (asks : Bool) (old new : Option (List ℕ)) → new ≡ old → ReadsAside asks old new
aside_same asks old new same = record { lines = []; are_read = same; are_persons = λ list. refl }

pub aside_on : (asks : Bool) (old middle new : Option (List ℕ)) → ReadsAside asks old middle → ReadsAside asks middle new → ReadsAside asks old new
aside_on asks old middle new one other = record {
  lines = one.lines ++ other.lines;
  are_read = joined one.lines other.lines old middle new one.are_read other.are_read;
  are_persons = λ list. none_joined one.lines other.lines (one.are_persons list) (other.are_persons list);
}

aside_line : (old new : Option (List ℕ)) (line : Typed) → GivesNext old new (Line line) → ReadsAside true old new
aside_line old new line read = record { lines = line ∷ []; are_read = (new, (read, refl)); are_persons = λ list. cc }

pub aside_heard : (to_person : Bool) (old new : Option (List ℕ)) (heard : Typed) → HearsLine to_person old new heard → ReadsAside true old new
aside_heard to_person old new heard hears = aside_line old new hears.line hears.read

pub aside_by_person : (asks : Bool) (old new : Option (List ℕ)) → asks ≡ true → ReadsAside true old new → ReadsAside asks old new
aside_by_person asks old new is read = subst (λ (asks : Bool). ReadsAside asks old new) (sym is) read

pub passes_none : (question : Question) (bytes : Option (List ℕ)) → PassesOver question bytes bytes
passes_none question bytes = record { lines = []; are_read = refl; none = λ list. refl }

pub passes_on : (question : Question) (old middle new : Option (List ℕ)) → PassesOver question old middle → PassesOver question middle new → PassesOver question old new
passes_on question old middle new one other = record {
  lines = one.lines ++ other.lines;
  are_read = joined one.lines other.lines old middle new one.are_read other.are_read;
  none = λ list. any_joined question one.lines other.lines (one.none list) (other.none list);
}

-- ---- what they say
pub hears_list : (to_person : Bool) (old new : Option (List ℕ)) (line : Typed) → GivesNext old new (Line line) → HearsLine to_person old new line
hears_list to_person old new line read = record { line = line; read = read; is = inl refl }

pub hears_person : (to_person : Bool) (old new : Option (List ℕ)) (line heard : Typed) → to_person ≡ true → GivesNext old new (Line line) → (heard ≡ line) ⊎ (heard ≡ typed.Nothing) → HearsLine to_person old new heard
hears_person to_person old new line heard person read is = record { line = line; read = read; is = by is }
  where
    by : (heard ≡ line) ⊎ (heard ≡ typed.Nothing) → (heard ≡ line) ⊎ ((to_person ≡ true) × (heard ≡ typed.Nothing))
    by (inl same) = inl same
    by (inr nothing) = inr (person, nothing)

says : (question : Question) (to : LevelId) (digit : ℕ) (old new : Option (List ℕ)) (heard : Typed) → HearsLine question.to_person old new heard → SaysReply question to digit heard → ReadsReply question to digit old new
says question to digit old new heard hears said = record {
  before = old;
  after = new;
  line = hears.line;
  earlier = passes_none question old;
  read = hears.read;
  says = by hears.is;
  later = aside_none question.to_person new;
}
  where
    by : (heard ≡ hears.line) ⊎ ((question.to_person ≡ true) × (heard ≡ typed.Nothing)) → SaysReply question to digit hears.line
    by (inl same) = subst (λ line. SaysReply question to digit line) same said
    by (inr nothing) = absurd (subst (λ line. SaysReply question to digit line) nothing.1 said)

said_later : (question : Question) (to : LevelId) (digit : ℕ) (old middle new : Option (List ℕ)) → ReadsReply question to digit old middle → ReadsAside question.to_person middle new → ReadsReply question to digit old new
said_later question to digit old middle new said more = record {
  before = said.before;
  after = said.after;
  line = said.line;
  earlier = said.earlier;
  read = said.read;
  says = said.says;
  later = aside_on question.to_person said.after middle new said.later more;
}

pub said_after : (question : Question) (to : LevelId) (digit : ℕ) (old middle new : Option (List ℕ)) → PassesOver question old middle → ReadsReply question to digit middle new → ReadsReply question to digit old new
said_after question to digit old middle new more said = record {
  before = said.before;
  after = said.after;
  line = said.line;
  earlier = passes_on question old middle said.before more said.earlier;
  read = said.read;
  says = said.says;
  later = said.later;
}

-- a line that is heard, and of which nothing came
passes_heard : (question : Question) (old new : Option (List ℕ)) (heard : Typed) → HearsLine question.to_person old new heard → (question.to_person ≡ false → answers question heard ≡ false) → PassesOver question old new
passes_heard question old new heard hears nothing = record {
  lines = hears.line ∷ [];
  are_read = (new, (hears.read, refl));
  none = λ list. or_none (answers question hears.line) false (by list hears.is) refl;
}
  where
    by : question.to_person ≡ false → (heard ≡ hears.line) ⊎ ((question.to_person ≡ true) × (heard ≡ typed.Nothing)) → answers question hears.line ≡ false
    by list (inl same) = subst (λ line. answers question line ≡ false) same (nothing list)
    by list (inr too_soon) = cc (list, too_soon.0)

-- a person's lines
passes_persons : (question : Question) (old new : Option (List ℕ)) → question.to_person ≡ true → ReadsAside true old new → PassesOver question old new
passes_persons question old new person read = record {
  lines = read.lines;
  are_read = read.are_read;
  none = λ list. cc (list, person);
}

pub comes_of_heard : (question : Question) (old new : Option (List ℕ)) (heard : Typed) (said : Said) → HearsLine question.to_person old new heard → ComesOfLine question heard said → ComesOfLines question old new said
comes_of_heard question old new heard (outcome.Reply to digit) hears is = says question to digit old new heard hears is
comes_of_heard question old new heard outcome.Over hears is = tt
comes_of_heard question old new heard outcome.Nothing hears is = passes_heard question old new heard hears is

said_on : (question : Question) (to : LevelId) (digit : ℕ) (old new : Option (List ℕ)) (heard : Typed) → question.to_person ≡ true → HearsLine question.to_person old new heard → PassesOver question old new
said_on question to digit old new heard person hears = passes_persons question old new person (aside_heard question.to_person old new heard hears)

confirmed : (question : Question) (to : LevelId) (digit : ℕ) (old middle new : Option (List ℕ)) (heard : Typed) (said : Said) → question.to_person ≡ true
    → HearsLine question.to_person old middle heard → SaysReply question to digit heard → IsConfirmed to digit middle new said → ComesOfLines question old new said
confirmed question to digit old middle new heard (outcome.Reply level more) person hears is again =
    subst (λ (level : LevelId). ReadsReply question level more old new) (sym again.0) (subst (λ (digit : ℕ). ReadsReply question to digit old new) (sym again.1.0)
    (said_later question to digit old middle new (says question to digit old middle heard hears is) (aside_by_person question.to_person middle new person again.1.1)))
confirmed question to digit old middle new heard outcome.Over person hears is again = tt
confirmed question to digit old middle new heard outcome.Nothing person hears is again =
    passes_on question old middle new (said_on question to digit old middle heard person hears) (passes_persons question middle new person again)

if_confirmed : {E : Type 0} (question : Question) (to : LevelId) (digit : ℕ) (old middle new : Option (List ℕ)) (heard : Typed) (result : Result Said E) → question.to_person ≡ true
    → HearsLine question.to_person old middle heard → SaysReply question to digit heard → IfOk result (IsConfirmed to digit middle new) → IfOk result (ComesOfLines question old new)
if_confirmed question to digit old middle new heard (Ok said) person hears is more = confirmed question to digit old middle new heard said person hears is more
if_confirmed question to digit old middle new heard (Err e) person hears is more = tt

-- a reply that a person confirms: after a prompt a line is heard, and after a further question another one
pub comes_of_confirmed : {E : Type 0} (question : Question) (to : LevelId) (digit : ℕ) (old first second third new : Option (List ℕ)) (line : Option Typed) (heard : Typed) (came : Said) (wants : Bool) (result : Result Said E)
    → first ≡ old → Hears question.to_person first second line → line ≡ Some heard → ComesOfLine question heard came → came ≡ outcome.Reply to digit → third ≡ second
    → wants ≡ true → (wants ≡ true → question.to_person ≡ true) → IfOk result (IsConfirmed to digit third new) → IfOk result (ComesOfLines question old new)
comes_of_confirmed question to digit old first second third new line heard came wants result prompted hears is_line comes is_reply told is_wanted only more =
    subst (λ (old : Option (List ℕ)). IfOk result (ComesOfLines question old new)) prompted
    (if_confirmed question to digit first second new heard result (only is_wanted) (subst (λ (line : Option Typed). Hears question.to_person first second line) is_line hears)
    (subst (λ (came : Said). ComesOfLine question heard came) is_reply comes) (subst (λ (third : Option (List ℕ)). IfOk result (IsConfirmed to digit third new)) told more))

-- a line that is heard after others
pub aside_heard_next : (old first second new : Option (List ℕ)) (line : Option Typed) (heard : Typed) → ReadsAside true old first → second ≡ first → Hears true second new line → line ≡ Some heard → ReadsAside true old new
aside_heard_next old first second new line heard read same hears is =
    aside_on true old second new (subst (λ (bytes : Option (List ℕ)). ReadsAside true old bytes) (sym same) read) (aside_heard true second new heard (subst (λ (line : Option Typed). Hears true second new line) is hears))

pub aside_heard_told : (old first second third new : Option (List ℕ)) (line : Option Typed) (heard : Typed) → ReadsAside true old first → second ≡ first → Hears true second third line → line ≡ Some heard → new ≡ third → ReadsAside true old new
aside_heard_told old first second third new line heard read same hears is told =
    subst (λ (bytes : Option (List ℕ)). ReadsAside true old bytes) (sym told) (aside_heard_next old first second third line heard read same hears is)

-- two calls that read aside
pub aside_then : {E : Type 0} (one two : Sources) (old middle new : Option (List ℕ)) (result : Result (Unit {0}) E) → two ≡ one → ReadsAside one.asks_person old middle → OnOk result (ReadsAside two.asks_person middle new) → OnOk result (ReadsAside one.asks_person old new)
aside_then one two old middle new (Ok done) same read more = aside_on one.asks_person old middle new read (subst (λ (it : Sources). ReadsAside it.asks_person middle new) same more)
aside_then one two old middle new (Err e) same read more = tt

-- .. between others that read nothing
pub aside_twice : {E : Type 0} (sources one two : Sources) (old first middle second new : Option (List ℕ)) (result : Result (Unit {0}) E)
    → one ≡ sources → first ≡ old → ReadsAside one.asks_person first middle → two ≡ one → ReadsAside two.asks_person middle second → new ≡ second → OnOk result (ReadsAside sources.asks_person old new)
aside_twice sources one two old first middle second new (Ok done) same begun read other more told =
    subst (λ (bytes : Option (List ℕ)). ReadsAside sources.asks_person old bytes) (sym told)
    (subst (λ (bytes : Option (List ℕ)). ReadsAside sources.asks_person bytes second) begun
    (subst (λ (it : Sources). ReadsAside it.asks_person first second) same
    (aside_on one.asks_person first middle second read (subst (λ (it : Sources). ReadsAside it.asks_person middle second) other more))))
aside_twice sources one two old first middle second new (Err e) same begun read other more told = tt

-- a reply that comes after lines that were passed over
pub said_at_last : (question : Question) (to : LevelId) (digit : ℕ) (old middle new : Option (List ℕ)) (came : Said) → PassesOver question old middle → ComesOfLines question middle new came → came ≡ outcome.Reply to digit → ReadsReply question to digit old new
said_at_last question to digit old middle new came passed comes is = said_after question to digit old middle new passed (subst (λ (came : Said). ComesOfLines question middle new came) is comes)

pub agreed : (old new : Option (List ℕ)) (has_agreed : Bool) → has_agreed ≡ true → HasAgreed old new has_agreed → ReadsAside true old new
agreed old new true is read = read
agreed old new false is read = cc

some_is : {X : Type 0} (x y : X) → Some x ≡ Some y → x ≡ y
some_is x y is = cc

reply_of : (line : Typed) (to : Option LevelId) (digit : ℕ) → Some (to, digit) ≡ reply_in line → line ≡ typed.Reply to digit
reply_of (typed.Reply own said) to digit is = ap (λ (reply : Option LevelId × ℕ). typed.Reply reply.0 reply.1) (sym (some_is (to, digit) (own, said) is))
reply_of typed.Nothing to digit is = cc
reply_of typed.Help to digit is = cc
reply_of typed.Show to digit is = cc
reply_of (typed.Lines of many) to digit is = cc
reply_of typed.Stop to digit is = cc
reply_of typed.Yes to digit is = cc
reply_of typed.No to digit is = cc
reply_of typed.Unknown to digit is = cc

same_as_itself : (level : LevelId) → same_level level level ≡ true
same_as_itself One = refl
same_as_itself Two = refl

and_true : (one other : Bool) → one ≡ true → (one && other) ≡ false → other ≡ false
and_true true other is none = none
and_true false other is none = cc

here : (question : Question) (digit : ℕ) (came : Said) → ComesOfDigit question question.level digit came → ComesOfLine question (typed.Reply None digit) came
here question digit (outcome.Reply to more) is = is
here question digit outcome.Over is = absurd is
here question digit outcome.Nothing is = λ list. and_true (same_level question.level question.level) (is_allowed question.code digit) (same_as_itself question.level) (is list)

pub heard_here : (question : Question) (digit : ℕ) (line : Typed) (came : Said) → Some (None, digit) ≡ reply_in line → ComesOfDigit question question.level digit came → ComesOfLine question line came
heard_here question digit line came same is = subst (λ (line : Typed). ComesOfLine question line came) (sym (reply_of line None digit same)) (here question digit came is)

for_level : (question : Question) (to : LevelId) (digit : ℕ) (came : Said) → ComesOfDigit question to digit came → ComesOfLine question (typed.Reply (Some to) digit) came
for_level question to digit (outcome.Reply level more) is = is
for_level question to digit outcome.Over is = absurd is
for_level question to digit outcome.Nothing is = is

pub heard_for : (question : Question) (to : LevelId) (digit : ℕ) (line : Typed) (came : Said) → Some (Some to, digit) ≡ reply_in line → ComesOfDigit question to digit came → ComesOfLine question line came
heard_for question to digit line came same is = subst (λ (line : Typed). ComesOfLine question line came) (sym (reply_of line (Some to) digit same)) (for_level question to digit came is)

no_reply : (question : Question) (line : Typed) → None ≡ reply_in line → answers question line ≡ false
no_reply question (typed.Reply own said) is = cc
no_reply question typed.Nothing is = refl
no_reply question typed.Help is = refl
no_reply question typed.Show is = refl
no_reply question (typed.Lines of many) is = refl
no_reply question typed.Stop is = refl
no_reply question typed.Yes is = refl
no_reply question typed.No is = refl
no_reply question typed.Unknown is = refl

pub heard_command : (question : Question) (line : Typed) (came : Said) → None ≡ reply_in line → ComesOfCommand question came → ComesOfLine question line came
heard_command question line (outcome.Reply to digit) none is = absurd is
heard_command question line outcome.Over none is = is
heard_command question line outcome.Nothing none is = λ list. no_reply question line none

pub of_person : (question : Question) (to : LevelId) (digit : ℕ) → question.to_person ≡ true → ComesOfDigit question to digit outcome.Nothing
of_person question to digit person = λ list. cc (list, person)

-- a digit that the halt of a level doesn't allow
refused : (is_asked is_given allows : Bool) → (is_asked ≡ true → is_given ≡ allows) → is_given ≡ false → (is_asked && allows) ≡ false
refused true is_given allows same refuses = sym (same refl) ∙ refuses
refused false is_given allows same refuses = refl

allowed_by : (one other : HaltCode) (digit : ℕ) → Some one ≡ Some other → is_allowed one digit ≡ is_allowed other digit
allowed_by one other digit same = cc

pub not_allowed : (question : Question) (to : LevelId) (code : HaltCode) (digit : ℕ) → (same_level to question.level ≡ true → Some code ≡ Some question.code) → is_allowed code digit ≡ false → ComesOfDigit question to digit outcome.Nothing
not_allowed question to code digit same refuses =
    λ list. refused (same_level to question.level) (is_allowed code digit) (is_allowed question.code digit) (λ is. allowed_by code question.code digit (same is)) refuses

absent : (is_asked allows : Bool) → (is_asked ≡ true → ⊥) → (is_asked && allows) ≡ false
absent true allows never = absurd (never refl)
absent false allows never = refl

no_halt : (code : HaltCode) → None ≡ Some code → ⊥
no_halt code is = cc

pub not_asked : (question : Question) (to : LevelId) (digit : ℕ) → (same_level to question.level ≡ true → None ≡ Some question.code) → ComesOfDigit question to digit outcome.Nothing
not_asked question to digit none = λ list. absent (same_level to question.level) (is_allowed question.code digit) (λ is. no_halt question.code (none is))

-- ---- where a reply comes from
pub given_first : (digit : ℕ) (logged ruled : Option ℕ) → Some digit ≡ logged → Some digit ≡ option_or logged ruled
given_first digit logged ruled is = ap (λ (logged : Option ℕ). option_or logged ruled) is

pub given_second : (given logged ruled : Option ℕ) → None ≡ logged → given ≡ ruled → given ≡ option_or logged ruled
given_second given logged ruled none is = is ∙ ap (λ (logged : Option ℕ). option_or logged ruled) none

pub same_level_is : (one other : LevelId) → same_level one other ≡ true → one ≡ other
same_level_is One One same = refl
same_level_is One Two same = cc
same_level_is Two One same = cc
same_level_is Two Two same = refl

pub answers_ahead : (ahead : Option ℕ) (IsAside : Type 0) (IsSaid : ℕ → Type 0) (digit answer : ℕ) → Some digit ≡ ahead → answer ≡ digit → IsAside → Answers None ahead IsAside IsSaid answer
answers_ahead ahead IsAside IsSaid digit answer is same aside = subst (λ (ahead : Option ℕ). Answers None ahead IsAside IsSaid answer) is (same, aside)

pub answers_line : (level to : LevelId) (code : HaltCode) (sources : Sources) (from until : Option (List ℕ)) (digit answer : ℕ) → None ≡ ahead_for level code sources.ahead → same_level to level ≡ true → answer ≡ digit
    → ReadsReply (question_of level code sources) to digit from until → IsAnswer None level code answer sources from until
answers_line level to code sources from until digit answer none same is said =
    subst (λ (ahead : Option ℕ). Answers None ahead (ReadsAside sources.asks_person from until) (λ digit. ReadsReply (question_of level code sources) level digit from until) answer) none
    (subst (λ (digit : ℕ). ReadsReply (question_of level code sources) level digit from until) (sym is) (subst (λ (to : LevelId). ReadsReply (question_of level code sources) to digit from until) (same_level_is to level same) said))

pub keeps_same : (question : Question) (old new : Sources) (from to : Option (List ℕ)) → new ≡ old → KeepsSources question old new from to
keeps_same question old new from to same = record {
  whole = subst (λ (it : Sources). it ≡ record old { ahead = it.ahead }) (sym same) refl;
  ahead = inl (ap (λ (it : Sources). it.ahead) same);
}

pub keeps_more : (question : Question) (level : LevelId) (digit : ℕ) (old half new : Sources) (from to : Option (List ℕ)) → half ≡ old → new ≡ record half { ahead = Some (level, digit) } → ReadsReply question level digit from to → KeepsSources question old new from to
keeps_more question level digit old half new from to same is said = record {
  whole = subst (λ (it : Sources). it ≡ record old { ahead = it.ahead }) (sym (is ∙ ap (λ (it : Sources). record it { ahead = Some (level, digit) }) same)) refl;
  ahead = inr (level, (digit, (ap (λ (it : Sources). it.ahead) is, said)));
}

later : (given ahead : Option ℕ) (level : LevelId) (code : HaltCode) (digit : ℕ) (sources : Sources) (from middle to : Option (List ℕ))
    → Answers given ahead (ReadsAside sources.asks_person from middle) (λ digit. ReadsReply (question_of level code sources) level digit from middle) digit → ReadsAside sources.asks_person middle to
    → Answers given ahead (ReadsAside sources.asks_person from to) (λ digit. ReadsReply (question_of level code sources) level digit from to) digit
later (Some answer) ahead level code digit sources from middle to is more = (is.0, aside_on sources.asks_person from middle to is.1 more)
later None (Some answer) level code digit sources from middle to is more = (is.0, aside_on sources.asks_person from middle to is.1 more)
later None None level code digit sources from middle to is more = said_later (question_of level code sources) level digit from middle to is more

pub gets_given : (level : LevelId) (code : HaltCode) (digit : ℕ) (old new : Sources) (from to : Option (List ℕ)) → Some digit ≡ given_to level code old → new ≡ with_reply level old → ReadsAside old.asks_person from to → GetsReply level code digit old new from to
gets_given level code digit old new from to is counted aside = record {
  answers = subst (λ (given : Option ℕ). IsAnswer given level code digit old from to) is (refl, aside);
  counted = counted;
}

pub gets_said : (level : LevelId) (code : HaltCode) (digit : ℕ) (old half new : Sources) (from middle to : Option (List ℕ)) → None ≡ given_to level code old
    → IsAnswer None level code digit old from middle → half ≡ old → new ≡ with_reply level half → ReadsAside half.asks_person middle to → GetsReply level code digit old new from to
gets_said level code digit old half new from middle to none answers same counted more = record {
  answers = subst (λ (given : Option ℕ). IsAnswer given level code digit old from to) none
      (later None (ahead_for level code old.ahead) level code digit old from middle to answers (subst (λ (it : Sources). ReadsAside it.asks_person middle to) same more));
  counted = counted ∙ ap (λ (it : Sources). with_reply level it) same;
}

pub answered : (level : LevelId) (code : HaltCode) (reply : Option ℕ) (old new : Sources) (from to : Option (List ℕ)) (is_closed : Bool)
    → HasReplied {E = AllocError} level code (Ok reply) old new from to → IsAnswered level code reply old new from to is_closed
answered level code None old new from to is_closed is = (inl is.0, is.1)
answered level code (Some digit) old new from to is_closed is = is

pub answered_closed : (level : LevelId) (code : HaltCode) (old new : Sources) (from to : Option (List ℕ)) (is_closed : Bool) → is_closed ≡ true → KeepsSources (question_of level code old) old new from to → IsAnswered level code None old new from to is_closed
answered_closed level code old new from to is_closed closed keeps = (inr closed, keeps)

-- ---- a halt that is shown
pub shows : (level : LevelId) (job : ℕ) (card : Option ℕ) (program : Option Name) (old new : Sources) → new ≡ with_halt level job card program old → ShowsHalt level old new
shows level job card program old new is = record { job = job; card = card; program = program; is = is }

pub is_shown : (level : LevelId) (old : Sources) (from : Option (List ℕ)) (new : Sources) (to : Option (List ℕ)) (is_closed : Bool) → ShowsHalt level old new → ReadsAside old.asks_person from to → IsShown level old from new to is_closed
is_shown level old from new to is_closed shows reads = inr (shows, reads)

pub is_closed_at : (level : LevelId) (old : Sources) (from : Option (List ℕ)) (new : Sources) (to : Option (List ℕ)) (is_closed : Bool) → is_closed ≡ true → IsShown level old from new to is_closed
is_closed_at level old from new to is_closed closed = inl closed

-- ---- what the desk follows
pub follows : {E : Type 0} (result : Result (Unit {0}) E) (IsSame Reads Logs : Type 0) → OnOk result IsSame → OnOk result Reads → Logs → OnOk result ((IsSame × Reads) × Logs)
follows (Ok done) IsSame Reads Logs same reads logs = ((same, reads), logs)
follows (Err e) IsSame Reads Logs same reads logs = tt

pub shows_on : (level : LevelId) (old half new last : Sources) → half ≡ old → ShowsHalt level half new → last ≡ new → ShowsHalt level old last
shows_on level old half new last same is later = record {
  job = is.job;
  card = is.card;
  program = is.program;
  is = later ∙ (is.is ∙ ap (λ (it : Sources). with_halt level is.job is.card is.program it) same);
}
