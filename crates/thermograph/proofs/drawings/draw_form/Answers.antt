use Rattle.std.proofs.Common.{List, arith, refl, sym, subst, Vec, Global}
use Rattle.std.proofs.lemmas.Result.{err_from_is_err_and}
use Rattle.thermograph.specs.declared.breaks.Break.{Break}
use Rattle.thermograph.specs.inner.Drawings.{AreDrawnBelow}
use Rattle.thermograph.proofs.DrawingLaws.{left-known, right-known, scaffolds-stay, joined-drawing, jumped}
use Rattle.thermograph.proofs.ScaffoldLaws.{rise-rises}
use Rattle.thermograph.proofs.drawings.draw_form.Goals as goal
use Rattle.thermograph.proofs.drawings.draw_form.Goals.{After-deref-in-Options}

known : (c : After-deref-in-Options) → AreDrawnBelow c.args.store.now c.args.id c.deref-in-Options.result.now c.deref.result.now
known c = subst (λ (ws : List (Vec Break Global)). AreDrawnBelow c.args.store.now c.args.id ws c.deref.result.now) (sym c.deref-in-Options.ensures.value)
    (subst (λ (ws : List (Vec Break Global)). AreDrawnBelow c.args.store.now c.args.id c.args.walls.now.left.items ws) (sym c.deref.ensures.value) c.requires.known)

pub join-requires : goal.join-requires
join-requires c =
    let o = c.in-Options.ensures.form in
    let h = known (goal.at.join-requires c).After-deref-in-Options in
    let l = left-known c.args.store.now c.args.id _ _ _ _ o h in
    let r = right-known c.args.store.now c.args.id _ _ _ _ o h in record {
      left = record { ids = λ j i. omega (arith, o.left_below j i, h.right_count); level = l.0; steady = l.1; rises = rise-rises _ _ l.1 };
      right = record { ids = λ j i. omega (arith, o.right_below j i, h.left_count); level = r.0; steady = r.1; rises = rise-rises _ _ r.1 };
      left_side = refl;
      right_side = refl;
      stays = scaffolds-stay c.args.store.now c.args.id _ _ _ _ o h;
    }

pub returns-in_err-drawing-in-Options-clause-bounds :
    goal.returns-in_err-drawing-in-Options-clause-bounds
returns-in_err-drawing-in-Options-clause-bounds c =
    let p = err_from_is_err_and c.from_residual-in_err-drawing-in-Options.result c.from_residual-in_err-drawing-in-Options.ensures.1 in
    rw (p.1, p.2) (λ e. jumped c.args.store.now c.args.id _ _ _ _ c.in-Options.ensures.form (known (goal.at.returns-in_err-drawing-in-Options-clause-bounds c).After-deref-in-Options) c.requires.id c.len-count.ensures.forms c.in-Options.ensures.canonical (c.in_err-drawing-in-Options.ensures.bounds e))

pub returns-in_ok-drawing-in-Options-clause-drawn :
    goal.returns-in_ok-drawing-in-Options-clause-drawn
returns-in_ok-drawing-in-Options-clause-drawn c = joined-drawing c.args.store.now c.args.id _ _ _ _ c.in-Options.ensures.form (known (goal.at.returns-in_ok-drawing-in-Options-clause-drawn c).After-deref-in-Options) c.requires.id c.len-count.ensures.forms _ c.in_ok-drawing-in-Options.ensures.drawn
