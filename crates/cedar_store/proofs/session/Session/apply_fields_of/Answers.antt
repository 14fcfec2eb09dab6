use Rattle.std.proofs.Common.{◌≡◌, ◌==◌, ◌∙◌, refl, sym, subst, ap, map, length, true}
use Rattle.std.proofs.lemmas.Bool.{false≢true}
use Rattle.std.specs.List.{list_all, slice_split}
use Rattle.cedar_lines.specs.Lines.{is_line_byte}
use Rattle.cedar_entity_lines.specs.EntityCommand.{Ent}
use Rattle.cedar_store.specs.Command.{Entity, Policy}
use Rattle.cedar_store.specs.Sessions.{SessionView, IsInState}
use Rattle.cedar_store.specs.laws.Sessions.{TakesKind}
use Rattle.cedar_store.proofs.Joined.{entity_takes, line_taken, line_left, nothing_taken, none_of_ent}
use Rattle.cedar_store.proofs.Joined.{none_of_line}
use Rattle.cedar_store.proofs.session.Session.apply_fields_of.Goals as goal

pub returns-then-is_empty : goal.returns-then-is_empty
returns-then-is_empty g c s h =
    nothing_taken c.args.line.now s c.args.self.now c.args.out.now.items (sym c.is_empty.ensures ∙ c.if-is_empty.true) h

pub returns-then-waits : goal.returns-then-waits
returns-then-waits g c s h =
    let i = c.self.inside in
    let old : SessionView = record { entities = i.entities; policy_sets = i.sets; is_lost = i.is_lost } in
    let new : SessionView = record { entities = c.apply_ent.new.self; policy_sets = i.sets; is_lost = i.is_lost } in
    let text : c.in_ok-is_text.is_text ≡ true = c.if-not-is_text.false in
    let readable : list_all is_line_byte c.args.line.now ≡ true = sym c.in_ok-is_text.ensures.readable ∙ text in
    let same : map (λ f. f.now) c.deref.result.now ≡ slice_split (λ b. b == 9) c.args.line.now =
    ap (map (λ f. f.now)) c.deref.ensures.value ∙ c.in_ok-is_text.ensures.fields text in
    let took = rw c.if-waits.true at c.in_ok-waits.ensures in
    let is = subst (λ v. IsInState v s) (sym c.self.view_is) h in
    line_taken Entity c.args.line.now (map (λ f. f.now) c.deref.result.now) s new c.args.out.now.items
    c.args.out.now.items readable same (
      Ent took.0 took.1,
      took.2,
      entity_takes old new s (Ent took.0 took.1) c.args.out.now.items c.args.out.now.items is refl refl
          (took.3 s.entities is.entities c.args.out.now.items),
    )

pub returns-then-on_sets : goal.returns-then-on_sets
returns-then-on_sets g c s h =
    let i = c.self.inside in
    let text : c.in_ok-is_text.is_text ≡ true = c.if-not-is_text.false in
    let readable : list_all is_line_byte c.args.line.now ≡ true = sym c.in_ok-is_text.ensures.readable ∙ text in
    let same : map (λ f. f.now) c.deref-2.result.now ≡ slice_split (λ b. b == 9) c.args.line.now =
    ap (map (λ f. f.now)) c.deref-2.ensures.value ∙ c.in_ok-is_text.ensures.fields text in
    let left = (rw c.if-waits.false at c.in_ok-waits.ensures).1 in
    let is = subst (λ m. IsInState (record { entities = m; policy_sets = i.sets; is_lost = i.is_lost }) s) (sym left)
    (subst (λ v. IsInState v s) (sym c.self.view_is) h) in
    let took = rw c.if-on_sets.true at (c.in_ok-on_sets.ensures s is) in
    line_taken Policy c.args.line.now (map (λ f. f.now) c.deref-2.result.now) s _ c.args.out.now.items _ readable same
    took

pub returns-then-on_store : goal.returns-then-on_store
returns-then-on_store g c s h =
    let i = c.self.inside in
    let text : c.in_ok-is_text.is_text ≡ true = c.if-not-is_text.false in
    let readable : list_all is_line_byte c.args.line.now ≡ true = sym c.in_ok-is_text.ensures.readable ∙ text in
    let same : map (λ f. f.now) c.deref-4.result.now ≡ slice_split (λ b. b == 9) c.args.line.now =
    ap (map (λ f. f.now)) c.deref-4.ensures.value ∙ c.in_ok-is_text.ensures.fields text in
    let left = (rw c.if-waits.false at c.in_ok-waits.ensures).1 in
    let is = subst (λ m. IsInState (record { entities = m; policy_sets = i.sets; is_lost = i.is_lost }) s) (sym left)
    (subst (λ v. IsInState v s) (sym c.self.view_is) h) in
    let none = rw c.if-on_sets.false at (c.in_ok-on_sets.ensures s is) in
    let took = rw c.if-on_store.true at (c.in_ok-on_store.ensures s none.1) in
    line_taken Entity c.args.line.now (map (λ f. f.now) c.deref-4.result.now) s _ c.args.out.now.items _ readable same
    (subst
    (λ o. TakesKind Entity true (map (λ f. f.now) c.deref-4.result.now) s c.apply_to_store.new.self o
    c.apply_to_store.new.out.items) none.2 took)

pub returns-then-begins_with_ent : goal.returns-then-begins_with_ent
returns-then-begins_with_ent g c s h =
    let i = c.self.inside in
    let text : c.in_ok-is_text.is_text ≡ true = c.if-not-is_text.false in
    let line = c.args.line.now in
    let same-1 : map (λ f. f.now) c.deref.result.now ≡ slice_split (λ b. b == 9) line =
    ap (map (λ f. f.now)) c.deref.ensures.value ∙ c.in_ok-is_text.ensures.fields text in
    let same-2 : map (λ f. f.now) c.deref-2.result.now ≡ slice_split (λ b. b == 9) line =
    ap (map (λ f. f.now)) c.deref-2.ensures.value ∙ c.in_ok-is_text.ensures.fields text in
    let same-3 : map (λ f. f.now) c.deref-3.result.now ≡ slice_split (λ b. b == 9) line =
    ap (map (λ f. f.now)) c.deref-3.ensures.value ∙ c.in_ok-is_text.ensures.fields text in
    let no_ent = rw c.if-waits.false at c.in_ok-waits.ensures in
    let is = subst (λ m. IsInState (record { entities = m; policy_sets = i.sets; is_lost = i.is_lost }) s) (sym no_ent.1)
    (subst (λ v. IsInState v s) (sym c.self.view_is) h) in
    let none = rw c.if-on_sets.false at (c.in_ok-on_sets.ensures s is) in
    line_left line s _ c.args.out.now.items _ (λ e. false≢true (sym c.if-is_empty.false ∙ c.is_empty.ensures ∙ ap (λ l.
    length l == 0) e))
    (none_of_ent line (map (λ f. f.now) c.deref.result.now) (map (λ f. f.now) c.deref-3.result.now) same-1 same-3
    (sym c.begins_with_ent.ensures ∙ c.if-begins_with_ent.true) no_ent.0)
    (none_of_line Policy line (map (λ f. f.now) c.deref-2.result.now) same-2 none.0)
    none.1 none.2

pub returns : goal.returns
returns g c s h =
    let i = c.self.inside in
    let text : c.in_ok-is_text.is_text ≡ true = c.if-not-is_text.false in
    let line = c.args.line.now in
    let same-2 : map (λ f. f.now) c.deref-2.result.now ≡ slice_split (λ b. b == 9) line =
    ap (map (λ f. f.now)) c.deref-2.ensures.value ∙ c.in_ok-is_text.ensures.fields text in
    let same-4 : map (λ f. f.now) c.deref-4.result.now ≡ slice_split (λ b. b == 9) line =
    ap (map (λ f. f.now)) c.deref-4.ensures.value ∙ c.in_ok-is_text.ensures.fields text in
    let left = (rw c.if-waits.false at c.in_ok-waits.ensures).1 in
    let is = subst (λ m. IsInState (record { entities = m; policy_sets = i.sets; is_lost = i.is_lost }) s) (sym left)
    (subst (λ v. IsInState v s) (sym c.self.view_is) h) in
    let none = rw c.if-on_sets.false at (c.in_ok-on_sets.ensures s is) in
    let more = rw c.if-on_store.false at (c.in_ok-on_store.ensures s none.1) in
    line_left line s _ c.args.out.now.items _ (λ e. false≢true (sym c.if-is_empty.false ∙ c.is_empty.ensures ∙ ap (λ l.
    length l == 0) e))
    (none_of_line Entity line (map (λ f. f.now) c.deref-4.result.now) same-4 more.0)
    (none_of_line Policy line (map (λ f. f.now) c.deref-2.result.now) same-2 none.0)
    more.1 (more.2 ∙ none.2)
