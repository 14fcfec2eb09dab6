-- Fields are at most one command on the store, and reading finds it.
use Rattle.std.specs.Prelude.{◌≡◌, ◌⊎◌, ℕ, List, [], ◌∷◌, codes, Bool, true, false, if◌then◌else◌, Option, Some, None}
use Rattle.std.specs.Prelude.{Result, Ok, Err}
use Rattle.std.proofs.Common.{ap, sym, refl, subst, ◌∙◌, inl, inr}
use Rattle.std.proofs.lemmas.Bool.{false≢true}
use Rattle.std.proofs.lemmas.Slice.Eq.{bytes_eq-Decides}
use Rattle.std.specs.List.{AllByRecursion}
use Rattle.std.specs.Str.{bytes_eq}
use Rattle.cedar_ids.specs.TextOf.{IsPrinted}
use Rattle.cedar_ids.specs.Uid.{UidParts}
use Rattle.cedar_ids.specs.UidOf.{uid_parts}
use Rattle.cedar_ids.specs.laws.UidReading.{uid_reading}
use Rattle.cedar_ids.specs.laws.PrintedLaws.{uid_reading-printed, printed_uid_injective}
use Rattle.cedar_ids.specs.laws.UidTexts.{uid_found}
use Rattle.cedar_ids.specs.declared.err.ParseErrors.{ParseErrors}
use Rattle.cedar_ids.specs.declared.entity.EntityUID.{EntityUID}
use Rattle.cedar_ids.specs.declared.entity.EntityUID.TheVariants as uids
use Rattle.cedar_entities.specs.laws.Finalized.{Settled, settled_by}
use Rattle.cedar_entity_lines.specs.EntityCommand.{EntityCommand, Ent, Build, Add, Upsert, Remove, Slice, Anc, AreTexts}
use Rattle.cedar_entity_lines.specs.EntityCommand.{AreFields, IsEntityCommand}
use Rattle.cedar_entity_lines.specs.Holding.{AreAsciiUids, HasAsciiUids}

-- Whether this is the text of a uid.
abbrev pub Text : EntityUID → List ℕ → Type 0
Text u t = IsPrinted (uid_parts u) t

-- ---- Fields are at most one command

same_uids : (u v : EntityUID) → uid_parts u ≡ uid_parts v → u ≡ v
same_uids (uids.EntityUID u) (uids.EntityUID v) e = ap uids.EntityUID e

one_text : (u v : EntityUID) (t : List ℕ) → Text u t → Text v t → u ≡ v
one_text u v t h k = same_uids u v (printed_uid_injective (uid_parts u) (uid_parts v) t h k)

one_list : (us vs : List EntityUID) (ts : List (List ℕ)) → AreTexts us ts → AreTexts vs ts → us ≡ vs
one_list [] [] [] h k = refl
one_list [] [] (t ∷ ts) h k = absurd h
one_list [] (v ∷ vs) [] h k = absurd k
one_list [] (v ∷ vs) (t ∷ ts) h k = absurd h
one_list (u ∷ us) [] [] h k = absurd h
one_list (u ∷ us) [] (t ∷ ts) h k = absurd k
one_list (u ∷ us) (v ∷ vs) [] h k = absurd h
one_list (u ∷ us) (v ∷ vs) (t ∷ ts) h k = λ i. one_text u v t h.0 k.0 i ∷ one_list us vs ts h.1 k.1 i

-- The word of a command.
abbrev pub word_of : EntityCommand → List ℕ
word_of (Ent u ps) = codes "ent"
word_of Build = codes "build"
word_of Add = codes "add"
word_of Upsert = codes "upsert"
word_of (Remove us) = codes "remove"
word_of (Slice us) = codes "slice"
word_of (Anc u) = codes "anc"

-- The uids of a command.
abbrev pub named_by : EntityCommand → List EntityUID
named_by (Ent u ps) = u ∷ ps
named_by Build = []
named_by Add = []
named_by Upsert = []
named_by (Remove us) = us
named_by (Slice us) = us
named_by (Anc u) = u ∷ []

-- The fields of a command are its word and the texts of its uids.
pub fields_are : (c : EntityCommand) (fs : List (List ℕ)) → IsEntityCommand c fs → AreFields (word_of c) (named_by c) fs
fields_are (Ent u ps) fs h = h
fields_are Build fs h = h
fields_are Add fs h = h
fields_are Upsert fs h = h
fields_are (Remove us) fs h = h.0
fields_are (Slice us) fs h = h.0
fields_are (Anc u) fs h = h

-- A command with a first uid.
abbrev with_first : (EntityUID → List EntityUID → EntityCommand) → List EntityUID → EntityCommand
with_first c [] = Build
with_first c (u ∷ us) = c u us

-- The command with this word and these uids.
abbrev command_by : List ℕ → List EntityUID → EntityCommand
command_by w us =
    if bytes_eq w (codes "ent") then with_first Ent us
    else if bytes_eq w (codes "build") then Build
    else if bytes_eq w (codes "add") then Add
    else if bytes_eq w (codes "upsert") then Upsert
    else if bytes_eq w (codes "remove") then Remove us
    else if bytes_eq w (codes "slice") then Slice us
    else if bytes_eq w (codes "anc") then with_first (λ u _. Anc u) us
    else Build

-- A command is determined by its word and its uids.
read_back : (c : EntityCommand) → command_by (word_of c) (named_by c) ≡ c
read_back (Ent u ps) = refl
read_back Build = refl
read_back Add = refl
read_back Upsert = refl
read_back (Remove us) = refl
read_back (Slice us) = refl
read_back (Anc u) = refl

same_words : (a b : List ℕ) (us vs : List EntityUID) (fs : List (List ℕ)) → AreFields a us fs → AreFields b vs fs
    → a ≡ b
same_words a b us vs [] h k = absurd h
same_words a b us vs (f ∷ fs) h k = sym h.0 ∙ k.0

same_named : (a b : List ℕ) (us vs : List EntityUID) (fs : List (List ℕ)) → AreFields a us fs → AreFields b vs fs
    → us ≡ vs
same_named a b us vs [] h k = absurd h
same_named a b us vs (f ∷ fs) h k = one_list us vs fs h.1 k.1

-- Fields are at most one command.
pub one_entity_command : (c d : EntityCommand) (fs : List (List ℕ)) → IsEntityCommand c fs → IsEntityCommand d fs
    → c ≡ d
one_entity_command c d fs h k =
    let p = fields_are c fs h in
    let q = fields_are d fs k in
    let words = same_words (word_of c) (word_of d) (named_by c) (named_by d) fs p q in
    let named = same_named (word_of c) (word_of d) (named_by c) (named_by d) fs p q in
    sym (read_back c) ∙ (λ i. command_by (words i) (named i)) ∙ read_back d

-- ---- The possible commands of fields

-- An empty list of fields is not a command.
pub no_fields : (c : EntityCommand) → IsEntityCommand c [] → ⊥
no_fields (Ent u ps) h = h
no_fields Build h = h
no_fields Add h = h
no_fields Upsert h = h
no_fields (Remove us) h = h.0
no_fields (Slice us) h = h.0
no_fields (Anc u) h = h

-- The words of the commands are different.
differs : (a b : List ℕ) → bytes_eq a b ≡ false → bytes_eq b b ≡ true → a ≡ b → ⊥
differs a b apart itself e = false≢true (sym apart ∙ ap (λ w. bytes_eq w b) e ∙ itself)

-- A command whose fields begin with a word is determined by the word and the uids after it.
error_text_of : (w : List ℕ) (ts : List (List ℕ)) (c : EntityCommand) → IsEntityCommand c (w ∷ ts) → (us : List EntityUID)
    × AreTexts us ts × (command_by w us ≡ c)
error_text_of w ts c h =
    let f = fields_are c (w ∷ ts) h in
    (named_by c, f.1, ap (λ v. command_by v (named_by c)) f.0 ∙ read_back c)

-- The first field excludes the command `build`. The next laws exclude other commands.
not_build : (w v : List ℕ) (ts : List (List ℕ)) (c : EntityCommand) → w ≡ v → bytes_eq v (codes "build") ≡ false
    → Build ≡ c → IsEntityCommand c (w ∷ ts) → ⊥
not_build w v ts c e apart same h =
    let build : IsEntityCommand Build (w ∷ ts) = subst (λ d. IsEntityCommand d (w ∷ ts)) (sym same) h in
    differs v (codes "build") apart refl (sym e ∙ build.0)

ent_told : (w : List ℕ) (ts : List (List ℕ)) (us : List EntityUID) → w ≡ codes "ent" → AreTexts us ts
    → ((p : EntityUID × List EntityUID) → AreTexts (p.0 ∷ p.1) ts → ⊥) → (c : EntityCommand) → command_by w us ≡ c
    → IsEntityCommand c (w ∷ ts) → ⊥
ent_told w ts [] e k none c same h = not_build w (codes "ent") ts c e refl (ap (λ v. command_by v []) (sym e) ∙ same) h
ent_told w ts (u ∷ ps) e k none c same h = none (u, ps) k

-- Fields after `ent` that are not the texts of a uid and its parents are not a command.
pub not_ent : (w : List ℕ) (ts : List (List ℕ)) → w ≡ codes "ent"
    → ((p : EntityUID × List EntityUID) → AreTexts (p.0 ∷ p.1) ts → ⊥) → (c : EntityCommand)
    → IsEntityCommand c (w ∷ ts) → ⊥
not_ent w ts e none c h = let t = error_text_of w ts c h in ent_told w ts t.0 e t.1 none c t.2 h

-- Fields after `remove` that are not one or more texts of uids are not a command.
pub not_remove : (w : List ℕ) (ts : List (List ℕ)) → w ≡ codes "remove"
    → ((us : List EntityUID) → (us ≡ [] → ⊥) × AreTexts us ts → ⊥) → (c : EntityCommand) → IsEntityCommand c (w ∷ ts)
    → ⊥
not_remove w ts e none c h =
    let t = error_text_of w ts c h in
    let same : Remove t.0 ≡ c = ap (λ v. command_by v t.0) (sym e) ∙ t.2 in
    let r : IsEntityCommand (Remove t.0) (w ∷ ts) = subst (λ d. IsEntityCommand d (w ∷ ts)) (sym same) h in
    none t.0 (r.1, t.1)

-- Fields after `slice` that are not one or more texts of uids are not a command.
pub not_slice : (w : List ℕ) (ts : List (List ℕ)) → w ≡ codes "slice"
    → ((us : List EntityUID) → (us ≡ [] → ⊥) × AreTexts us ts → ⊥) → (c : EntityCommand) → IsEntityCommand c (w ∷ ts)
    → ⊥
not_slice w ts e none c h =
    let t = error_text_of w ts c h in
    let same : Slice t.0 ≡ c = ap (λ v. command_by v t.0) (sym e) ∙ t.2 in
    let r : IsEntityCommand (Slice t.0) (w ∷ ts) = subst (λ d. IsEntityCommand d (w ∷ ts)) (sym same) h in
    none t.0 (r.1, t.1)

anc_told : (w : List ℕ) (ts : List (List ℕ)) (us : List EntityUID) → w ≡ codes "anc"
    → ((u : EntityUID) → AreTexts (u ∷ []) ts → ⊥) → (c : EntityCommand) → command_by w us ≡ c
    → IsEntityCommand c (w ∷ ts) → ⊥
anc_told w ts [] e none c same h = not_build w (codes "anc") ts c e refl (ap (λ v. command_by v []) (sym e) ∙ same) h
anc_told w ts (u ∷ us) e none c same h =
    let is : Anc u ≡ c = ap (λ v. command_by v (u ∷ us)) (sym e) ∙ same in
    let r : IsEntityCommand (Anc u) (w ∷ ts) = subst (λ d. IsEntityCommand d (w ∷ ts)) (sym is) h in
    none u r.1

-- Fields after `anc` that are not the text of one uid are not a command.
pub not_anc : (w : List ℕ) (ts : List (List ℕ)) → w ≡ codes "anc" → ((u : EntityUID) → AreTexts (u ∷ []) ts → ⊥)
    → (c : EntityCommand) → IsEntityCommand c (w ∷ ts) → ⊥
not_anc w ts e none c h = let t = error_text_of w ts c h in anc_told w ts t.0 e none c t.2 h

-- If the fields after a word are not texts of uids, the fields are not a command.
no_uid_texts : (w : List ℕ) (ts : List (List ℕ)) → ((us : List EntityUID) → AreTexts us ts → ⊥) → (c : EntityCommand)
    → IsEntityCommand c (w ∷ ts) → ⊥
no_uid_texts w ts none c h = let t = error_text_of w ts c h in none t.0 t.1

-- A single word is `build`, `add` or `upsert`, or not a command.
pub not_word : (w : List ℕ) → (w ≡ codes "build" → ⊥) → (w ≡ codes "add" → ⊥) → (w ≡ codes "upsert" → ⊥)
    → (c : EntityCommand) → IsEntityCommand c (w ∷ []) → ⊥
not_word w build add upsert (Ent u ps) h = h.1
not_word w build add upsert Build h = build h.0
not_word w build add upsert Add h = add h.0
not_word w build add upsert Upsert h = upsert h.0
not_word w build add upsert (Remove []) h = h.1 refl
not_word w build add upsert (Remove (u ∷ us)) h = h.0.1
not_word w build add upsert (Slice []) h = h.1 refl
not_word w build add upsert (Slice (u ∷ us)) h = h.0.1
not_word w build add upsert (Anc u) h = h.1

-- A word before other fields is `ent`, `remove`, `slice` or `anc`, or the fields are not a command.
pub no_such_word : (w t : List ℕ) (ts : List (List ℕ)) → (w ≡ codes "ent" → ⊥) → (w ≡ codes "remove" → ⊥)
    → (w ≡ codes "slice" → ⊥) → (w ≡ codes "anc" → ⊥) → (c : EntityCommand) → IsEntityCommand c (w ∷ t ∷ ts) → ⊥
no_such_word w t ts ent remove cut anc (Ent u ps) h = ent h.0
no_such_word w t ts ent remove cut anc Build h = h.1
no_such_word w t ts ent remove cut anc Add h = h.1
no_such_word w t ts ent remove cut anc Upsert h = h.1
no_such_word w t ts ent remove cut anc (Remove us) h = remove h.0.0
no_such_word w t ts ent remove cut anc (Slice us) h = cut h.0.0
no_such_word w t ts ent remove cut anc (Anc u) h = anc h.0

-- ---- The command of fields

-- Either a value that satisfies `P`, or the fact that none does.
abbrev pub Found : {X : Type 0} → (X → Type 0) → Type 0
Found {X} P = ((x : X) × P x) ⊎ ((x : X) → P x → ⊥)

read_so : (t : List ℕ) (r : Result (Option UidParts) ParseErrors) → uid_reading t ≡ r → Found (λ u. Text u t)
read_so t (Ok (Some u)) e = inl (uids.EntityUID u, uid_found t u e)
read_so t (Ok None) e =
    inr (λ v h. let f : Ok None ≡ Ok (Some (uid_parts v)) = sym e ∙ uid_reading-printed (uid_parts v) t h in
    absurd (cc))
read_so t (Err x) e =
    inr (λ v h. let f : Err x ≡ Ok (Some (uid_parts v)) = sym e ∙ uid_reading-printed (uid_parts v) t h in absurd (cc))

-- The uid of a text, or the fact that there is none.
text_found : (t : List ℕ) → Found (λ u. Text u t)
text_found t = read_so t (uid_reading t) refl

texts_after : (t : List ℕ) (ts : List (List ℕ)) → Found (λ u. Text u t) → Found (λ us. AreTexts us ts)
    → Found (λ us. AreTexts us (t ∷ ts))
texts_after t ts (inl u) (inl us) = inl (u.0 ∷ us.0, (u.1, us.1))
texts_after t ts (inl u) (inr none) = inr (no_rest t ts none)
  where
    no_rest : (t : List ℕ) (ts : List (List ℕ)) → ((us : List EntityUID) → AreTexts us ts → ⊥) → (us : List EntityUID)
        → AreTexts us (t ∷ ts) → ⊥
    no_rest t ts none [] h = h
    no_rest t ts none (u ∷ us) h = none us h.1
texts_after t ts (inr none) rest = inr (no_first t ts none)
  where
    no_first : (t : List ℕ) (ts : List (List ℕ)) → ((u : EntityUID) → Text u t → ⊥) → (us : List EntityUID)
        → AreTexts us (t ∷ ts) → ⊥
    no_first t ts none [] h = h
    no_first t ts none (u ∷ us) h = none u h.0

-- The uids of some texts, or the fact that one is not the text of a uid.
texts_found : (ts : List (List ℕ)) → Found (λ us. AreTexts us ts)
texts_found [] = inl ([], tt)
texts_found (t ∷ ts) = texts_after t ts (text_found t) (texts_found ts)

word_is : (w v : List ℕ) → Settled (w ≡ v)
word_is w v = settled_by (bytes_eq w v) (bytes_eq-Decides w v)

-- The command of a single word, or the fact that there is none.
alone_found : (w : List ℕ) → Found (λ c. IsEntityCommand c (w ∷ []))
alone_found w = elim (word_is w (codes "build")) [
  | inl e ↦ inl (Build, (e, tt))
  | inr build ↦ elim (word_is w (codes "add")) [
    | inl e ↦ inl (Add, (e, tt))
    | inr add ↦ elim (word_is w (codes "upsert")) [
      | inl e ↦ inl (Upsert, (e, tt))
      | inr upsert ↦ inr (not_word w build add upsert)
    ]
  ]
]

two_or_none : (v : EntityUID) (vs : List EntityUID) (ts : List (List ℕ)) → AreTexts (v ∷ vs) ts → AreTexts [] ts → ⊥
two_or_none v vs [] h k = h
two_or_none v vs (t ∷ ts) h k = k

not_empty : (u : EntityUID) (us : List EntityUID) → u ∷ us ≡ [] → ⊥
not_empty u us e = cc

anc_found : (w t : List ℕ) (ts : List (List ℕ)) (u : EntityUID) (us : List EntityUID) → w ≡ codes "anc"
    → AreTexts (u ∷ us) (t ∷ ts) → Found (λ c. IsEntityCommand c (w ∷ t ∷ ts))
anc_found w t ts u [] e h = inl (Anc u, (e, h))
anc_found w t ts u (v ∷ vs) e h = inr (not_anc w (t ∷ ts) e (λ x k. two_or_none v vs ts h.1 k.1))

-- The command of a word and the fields after it, or the fact that there is none.
with_found : (w t : List ℕ) (ts : List (List ℕ)) → Found (λ us. AreTexts us (t ∷ ts))
    → Found (λ c. IsEntityCommand c (w ∷ t ∷ ts))
with_found w t ts (inr none) = inr (no_uid_texts w (t ∷ ts) none)
with_found w t ts (inl ([], h)) = absurd h
with_found w t ts (inl (u ∷ us, h)) = elim (word_is w (codes "ent")) [
  | inl e ↦ inl (Ent u us, (e, h))
  | inr ent ↦ elim (word_is w (codes "remove")) [
    | inl e ↦ inl (Remove (u ∷ us), ((e, h), not_empty u us))
    | inr remove ↦ elim (word_is w (codes "slice")) [
      | inl e ↦ inl (Slice (u ∷ us), ((e, h), not_empty u us))
      | inr cut ↦ elim (word_is w (codes "anc")) [
        | inl e ↦ anc_found w t ts u us e h
        | inr anc ↦ inr (no_such_word w t ts ent remove cut anc)
      ]
    ]
  ]
]

-- The command of some fields, or the fact that there is none.
pub entity_command_found : (fs : List (List ℕ)) → Found (λ c. IsEntityCommand c fs)
entity_command_found [] = inr no_fields
entity_command_found (w ∷ []) = alone_found w
entity_command_found (w ∷ t ∷ ts) = with_found w t ts (texts_found (t ∷ ts))

-- ---- The uids of a command

texts_ascii : (us : List EntityUID) (ts : List (List ℕ)) → AreTexts us ts → AreAsciiUids us
texts_ascii [] ts h = tt
texts_ascii (u ∷ us) [] h = absurd h
texts_ascii (u ∷ us) (t ∷ ts) h = (h.0.1, texts_ascii us ts h.1)

-- The uids of a command have ASCII eids.
pub command_ascii : (c : EntityCommand) (fs : List (List ℕ)) → IsEntityCommand c fs → HasAsciiUids c
command_ascii (Ent u ps) [] h = absurd h
command_ascii (Ent u ps) (f ∷ fs) h = texts_ascii (u ∷ ps) fs h.1
command_ascii Build fs h = tt
command_ascii Add fs h = tt
command_ascii Upsert fs h = tt
command_ascii (Remove us) fs h = tt
command_ascii (Slice us) fs h = tt
command_ascii (Anc u) fs h = tt
