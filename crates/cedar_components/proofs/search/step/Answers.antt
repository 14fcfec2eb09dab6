use Rattle.std.proofs.Common.{◌≡◌, ◌+◌, ◌-◌, ◌<◌, [], ◌∷◌, ◌∙◌, arith, refl, sym}
use Rattle.std.proofs.Common.{length, length-append, get_or}
use Rattle.std.proofs.lemmas.Grind.{common_steps, get_or_default_zero}
use Rattle.cedar_components.proofs.Searching.{opens_stays, opens_seen, last_finished, target_in, opened, reads, less}
use Rattle.cedar_components.proofs.search.step.Goals as goal
use Rattle.cedar_components.proofs.search.step.Goals.{then-index-eq0+in_ok-open, else-index-eq0}

pub returns-after-index-eq0-clause-search : goal.returns-after-index-eq0-clause-search
returns-after-index-eq0-clause-search c =
    let a = c.args.arcs.now in
    let s = c.args.s.now in
    let h = c.requires.search in
    let v = c.index-v.result.now in
    let m = c.index-m.result.now in
    let y = c.index.result.now in
    let w = get_or a.to.now (m - 1) 0 in
    let some = c.requires.path in
    let is = c.index-m.ensures in
    let more = c.if-m-gt0.true in
    let last : v ≡ get_or s.path.items (length s.path.items - 1) 0 = grind (arith, common_steps) in
    let within = target_in a s h v m some last is more in
    let read : y ≡ get_or s.start.items w 0 = c.index.ensures ∙ get_or_default_zero s.start.items w y within in
    elim c.if-index-eq0.branch [
      | then-index-eq0+in_ok-open b ↦
          let t = b.open.new.s in
          let o = b.in_ok-open.ensures in
          let search = opened a s h v m some last is more t o (sym read ∙ b.if-index-eq0.true) in
          rw b.s-is (reads a s h v m some last is more t _ o.next refl refl refl refl search
          (opens_stays w s t o) (opens_seen w s t o within))
      | else-index-eq0 b ↦
          let seen : 0 < get_or s.start.items w 0 = omega (arith, read, b.if-index-eq0.false) in
          rw b.s-is (reads a s h v m some last is more s _ refl refl refl refl refl h.search (λ x k. k) seen)
    ]

pub returns-after-index-eq0-clause-less : goal.returns-after-index-eq0-clause-less
returns-after-index-eq0-clause-less c =
    let a = c.args.arcs.now in
    let s = c.args.s.now in
    let h = c.requires.search in
    let v = c.index-v.result.now in
    let m = c.index-m.result.now in
    let w = get_or a.to.now (m - 1) 0 in
    let some = c.requires.path in
    let is = c.index-m.ensures in
    let more = c.if-m-gt0.true in
    let last : v ≡ get_or s.path.items (length s.path.items - 1) 0 = grind (arith, common_steps) in
    elim c.if-index-eq0.branch [
      | then-index-eq0+in_ok-open b ↦
          let t = b.open.new.s in
          let o = b.in_ok-open.ensures in
          let few : length t.path.items < length s.path.items + 2 =
          rw (o.path, length-append s.path.items (w ∷ [])) (omega arith) in
          rw b.s-is (less a s h v m some last is more t o.next few)
      | else-index-eq0 b ↦
          rw b.s-is (less a s h v m some last is more s refl (omega arith))
    ]

pub returns-in_ok-finish-clause-search : goal.returns-in_ok-finish-clause-search
returns-in_ok-finish-clause-search c =
    let s = c.args.s.now in
    let v = c.index-v.result.now in
    let m = c.index-m.result.now in
    let last : v ≡ get_or s.path.items (length s.path.items - 1) 0 = grind (arith, common_steps) in
    let none : m ≡ 0 = omega (arith, c.if-m-gt0.false) in
    last_finished c.args.arcs.now s c.requires.search v m c.requires.path last c.index-m.ensures c.finish.new.s
    c.in_ok-finish.ensures none
