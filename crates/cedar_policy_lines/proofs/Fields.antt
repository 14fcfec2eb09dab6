-- Reading of fields.
use Rattle.std.specs.Prelude.{◌≡◌, ℕ, List, [], ◌∷◌, ◌++◌, length, drop, nat_eq, Bool, true, false, Option, Some, None}
use Rattle.std.specs.Prelude.{Result, Ok, Err, MatchOption, map, if◌then◌else◌}
use Rattle.std.proofs.Common.{ap, sym, refl, subst, ◌∙◌, arith, get_or, ◌<◌, ◌+◌, suc}
use Rattle.std.proofs.Math.Seq.{drop-cons}
use Rattle.std.specs.Borrow.{Bor}
use Rattle.std.specs.List.{starts_with}
use Rattle.std.specs.Option.{option_map}
use Rattle.std.specs.Str.Pattern.{FindsTextPrefix, StripsPrefix, LacksTextAt}
use Rattle.std.specs.Cmp.{unsigned_Decides}
use Rattle.std.proofs.lemmas.Slice.Eq.{starts_is}
use Rattle.std.proofs.lemmas.Bool.{false≢true}
use Rattle.cedar_ids.specs.Uid.{UidParts}
use Rattle.cedar_ids.specs.UidOf.{uid_parts}
use Rattle.cedar_ids.specs.TextOf.{IsPrinted}
use Rattle.cedar_ids.specs.laws.UidReading.{uid_reading}
use Rattle.cedar_ids.specs.laws.UidTexts.{uid_found}
use Rattle.cedar_ids.specs.declared.err.ParseErrors.{ParseErrors}
use Rattle.cedar_ids.specs.declared.entity.EntityUID.{EntityUID}
use Rattle.cedar_ids.specs.declared.entity.EntityUID.TheVariants as uids
use Rattle.cedar_ids.specs.Texts.{same_text}
use Rattle.cedar_ids.specs.laws.TextLaws.{same_text_decides}
use Rattle.cedar_policy_lines.specs.PolicyCommand.{PolicyCommand, IsPolicyCommand, bound_more}
use Rattle.cedar_policy_lines.specs.PolicyOutput.{RunsPolicyFields}
use Rattle.cedar_policy_lines.specs.TwoSets.{TwoSets}
use Rattle.cedar_policy_lines.specs.laws.Machines.{TakesAs}
use Rattle.cedar_binding.specs.Bindings.{EnvParts, binds}
use Rattle.cedar_terms.specs.declared.slot.SlotId.{SlotId}
use Rattle.cedar_lines.specs.Reads.{ReadsAs}
use Rattle.cedar_policy_lines.specs.laws.PolicyReading.{behind, uid_read, read_uid, binding_of, with_binding}
use Rattle.cedar_policy_lines.specs.laws.PolicyReading.{bindings_from, policy_command, command_by}
use Rattle.cedar_policy_lines.specs.laws.ReadCommands.{command_is_read, read_is_command, none_goes_on}

lacks : (mark s : List ℕ) (b : Bool) → starts_with nat_eq s mark ≡ b → LacksTextAt mark s 0
    → None ≡ (if b then Some (drop (length mark) s) else None)
lacks mark s false e l = refl
lacks mark s true e l =
    absurd (l (drop (length mark) s) ((starts_is unsigned_Decides s mark (starts_with nat_eq s mark) refl).0 e))

strips : (mark s x : List ℕ) (b : Bool) → starts_with nat_eq s mark ≡ b → StripsPrefix (FindsTextPrefix mark) s x
    → Some x ≡ (if b then Some (drop (length mark) s) else None)
strips mark s x true e h = ap Some (h.2 ∙ ap (λ n. drop n s) h.1.0)
strips mark s x false e h =
    let k : s ≡ mark ++ drop (length mark) s = h.1.1 ∙ ap (λ n. mark ++ drop n s) h.1.0 in
    absurd (false≢true (sym e ∙ (starts_is unsigned_Decides s mark (starts_with nat_eq s mark) refl).1 _ k))

-- The rest of a text after a prefix.
pub behind_is : (mark s : List ℕ) (o : Option (Bor (List ℕ)))
    → MatchOption o (FindsTextPrefix mark s None) (λ x. StripsPrefix (FindsTextPrefix mark) s x.now)
    → option_map (λ x. x.now) o ≡ behind mark s
behind_is mark s None h = lacks mark s (starts_with nat_eq s mark) refl h
behind_is mark s (Some x) h = strips mark s x.now (starts_with nat_eq s mark) refl h

none_by : (t : List ℕ) (r : Result (Option UidParts) ParseErrors) → uid_reading t ≡ r
    → ((u : EntityUID) → IsPrinted (uid_parts u) t → ⊥) → read_uid r ≡ None
none_by t (Ok (Some u)) e none = absurd (none (uids.EntityUID u) (uid_found t u e))
none_by t (Ok None) e none = refl
none_by t (Err x) e none = refl

-- A text that is not the text of a uid is not read as a uid.
pub no_uid : (t : List ℕ) → ((u : EntityUID) → IsPrinted (uid_parts u) t → ⊥) → uid_read t ≡ None
no_uid t none = none_by t (uid_reading t) refl none

-- The fields from a place on are the field there and the fields after it.
pub field_first : (fs : List (Bor (List ℕ))) (k : ℕ) (z : Bor (List ℕ)) → k < length fs
    → map (λ x. x.now) (drop k fs) ≡ (get_or fs k z).now ∷ map (λ x. x.now) (drop (k + 1) fs)
field_first fs k z l = ap (map (λ x. x.now)) (drop-cons fs k z l)
    ∙ ap (λ n. (get_or fs k z).now ∷ map (λ x. x.now) (drop n fs)) {x = suc k} {y = k + 1} (omega arith)

-- A field that is not a further binding ends the reading without bindings.
pub none_behind : (d : EnvParts) (f : List ℕ) (fs : List (List ℕ)) (o : Option EnvParts)
    → bindings_from (Some d) (f ∷ fs) ≡ o → with_binding d (binding_of f) ≡ None → None ≡ o
none_behind d f fs o h n = sym (none_goes_on fs) ∙ ap (λ x. bindings_from x fs) (sym n) ∙ h

bound_twice : (b : Bool) (x : EnvParts) → b ≡ true → (if b then None else Some x) ≡ None
bound_twice true x e = refl
bound_twice false x e = absurd (cc)

none_some : (c : PolicyCommand) → None ≡ Some c → ⊥
none_some c e = cc

-- An empty list of fields is not a command.
pub no_command : (fs : List (Bor (List ℕ))) → length fs ≡ 0 → (c : PolicyCommand)
    → IsPolicyCommand c (map (λ f. f.now) fs) → ⊥
no_command [] e c h = none_some c (command_is_read c [] h)
no_command (f ∷ fs) e c h = absurd (omega arith)

-- A result of reading that agrees with `policy_command` is correct.
pub reads_as : {A : Type 0} (value : A → PolicyCommand) (fs : List (List ℕ)) (o : Option A)
    → option_map value o ≡ policy_command fs → ReadsAs (λ c. IsPolicyCommand c fs) value o
reads_as value fs None e = λ c h. none_some c (e ∙ command_is_read c fs h)
reads_as value fs (Some a) e = read_is_command fs (value a) (sym e)

-- If the field at a place ends the reading, there are no bindings.
pub none_read : (fs : List (Bor (List ℕ))) (k : ℕ) (z : Bor (List ℕ)) (d : EnvParts) (o : Option EnvParts)
    → k < length fs → bindings_from (Some d) (map (λ x. x.now) (drop k fs)) ≡ o
    → with_binding d (binding_of (get_or fs k z).now) ≡ None → None ≡ o
none_read fs k z d o l h n =
    none_behind d (get_or fs k z).now (map (λ x. x.now) (drop (k + 1) fs)) o
    (ap (bindings_from (Some d)) (sym (field_first fs k z l)) ∙ h) n

-- A field from which nothing was read is not a binding.
pub unread : {A : Type 0} {B : Type 0} (g : A → B) (o : Option A) (p : Option B) → option_map g o ≡ p → o ≡ None
    → p ≡ None
unread g None p e n = sym e
unread g (Some x) p e n = absurd (cc)

-- A bound slot cannot be bound a second time.
pub bound_again : (d : EnvParts) (b : SlotId × UidParts) (o : Option (SlotId × UidParts)) → o ≡ Some b
    → binds d b.0 ≡ true → with_binding d o ≡ None
bound_again d b o e h = ap (with_binding d) e ∙ bound_twice (binds d b.0) (bound_more d b.0 b.1) h

bound_once : (v : Bool) (x : EnvParts) → v ≡ false → (if v then None else Some x) ≡ Some x
bound_once true x e = absurd (cc)
bound_once false x e = refl

bound_new : (d : EnvParts) (b : SlotId × UidParts) (o : Option (SlotId × UidParts)) → o ≡ Some b
    → binds d b.0 ≡ false → with_binding d o ≡ Some (bound_more d b.0 b.1)
bound_new d b o e h = ap (with_binding d) e ∙ bound_once (binds d b.0) (bound_more d b.0 b.1) h

-- If the field at a place binds one more slot, the reading continues after it.
pub one_more_read : (fs : List (Bor (List ℕ))) (k : ℕ) (z : Bor (List ℕ)) (d e : EnvParts) (b : SlotId × UidParts)
    → (o : Option EnvParts) → k < length fs → bindings_from (Some d) (map (λ x. x.now) (drop k fs)) ≡ o
    → binding_of (get_or fs k z).now ≡ Some b → binds d b.0 ≡ false → e ≡ bound_more d b.0 b.1
    → bindings_from (Some e) (map (λ x. x.now) (drop (k + 1) fs)) ≡ o
one_more_read fs k z d e b o l h read new is =
    let rest = map (λ x. x.now) (drop (k + 1) fs) in
    ap (λ x. bindings_from (Some x) rest) is
    ∙ sym (ap (λ x. bindings_from x rest) (bound_new d b (binding_of (get_or fs k z).now) read new))
    ∙ ap (bindings_from (Some d)) (sym (field_first fs k z l)) ∙ h

-- Fields that are run as they are read are run correctly.
pub taken_as : (taken : Bool) (fs : List (List ℕ)) (old new : TwoSets) (before after : List ℕ)
    → TakesAs (policy_command fs) taken old new before after → RunsPolicyFields taken fs old new before after
taken_as true fs old new before after h = (h.0, read_is_command fs h.0 h.1, h.2)
taken_as false fs old new before after h = (
  λ c k. none_some c (sym h.0 ∙ command_is_read c fs k),
  h.1,
  h.2,
)

-- The same, if the word determines how the fields are read.
pub taken_by : (word : List ℕ) (taken : Bool) (w : List ℕ) (fs : List (List ℕ)) (old new : TwoSets)
    (before after : List ℕ) → same_text w word ≡ true → TakesAs (command_by word fs) taken old new before after
    → RunsPolicyFields taken (w ∷ fs) old new before after
taken_by word taken w fs old new before after is h =
    taken_as taken (w ∷ fs) old new before after
    (subst (λ v. TakesAs (command_by v fs) taken old new before after) (sym ((same_text_decides w word).0 is)) h)
