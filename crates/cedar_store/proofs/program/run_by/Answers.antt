use Rattle.std.proofs.Common.{◌≡◌, ◌∙◌, ap, subst, sym}
use Rattle.std.proofs.lemmas.Option.{IfSome_then}
use Rattle.std.proofs.lemmas.Result.{IfOk-at_ok, err_from_is_err_and}
use Rattle.std.specs.Io.KnownBytes.{Appends}
use Rattle.std.specs.Prelude.{Result, Ok, Err}
use Rattle.std.specs.Result.{IfOk, MatchResult, is_ok}
use Rattle.cedar_store.specs.Output.{IsOutput}
use Rattle.cedar_store.proofs.program.run_by.Goals as goal

-- A property of a value stays true if only errors are mapped.
kept : {T E D : Type 0} (P : T → Type 0) (Q : E → Type 0) (r : Result T E) (m : Result T D) (x : T)
    → MatchResult r (λ y. m ≡ Ok y) Q → is_ok m ≡ is_ok r → IfOk r P → m ≡ Ok x → P x
kept P Q (Ok y) m x h v p is = IfOk-at_ok P (sym h ∙ is) p
kept P Q (Err e) m x h v p is = absurd (cc (ap is_ok is, v))

pub returns-clause-written : goal.returns-clause-written
returns-clause-written g c =
    let out =
    kept (λ r. IsOutput c.deref.result.now (record { bytes = r.0.items; status = r.1 })) _ c.answer.result
    c.map_err.result
    (c.in_ok-out.out, c.in_ok-out.status, c.in_ok-out.session) c.map_err.ensures.cases c.map_err.ensures.variant
    c.answer.ensures c.in_ok-out.was
    in
    IfSome_then (g.R.Read.remaining c.args.reader.now) c.in_ok-input.ensures.bytes
    (λ xs e. (
      c.in_ok-out.out.items,
      subst (λ d. IsOutput d (record { bytes = c.in_ok-out.out.items; status = c.in_ok-out.status }))
          (c.deref.ensures.value ∙ e) out,
      subst (Appends (g.W.Write.contents c.args.writer.now) (g.W.Write.contents c.send.new.writer))
          c.deref-2.ensures.value c.in_ok-send.ensures.sent,
    ))

pub returns-in_err-send-clause-err : goal.returns-in_err-send-clause-err
returns-in_err-send-clause-err g c =
    let p = err_from_is_err_and c.from_residual-in_err-send.result c.from_residual-in_err-send.ensures.1 in
    rw (p.1, p.2) c.in_err-send.ensures.err
