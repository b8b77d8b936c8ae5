-- What a call ensures where it succeeds, and where it fails.
use Rattle.std.proofs.Common.{◌≡◌, IfErr, IfOk, OnOk, Result, Ok, Err, sym, subst}
use Rattle.std.specs.Result.{IsErrAnd}
use Rattle.node_effects.specs.Errors.{IsUnwritten, WritesOrFails}
use Rattle.node_effects.specs.declared.error.NodeError.{NodeError}
use Rattle.std.proofs.lemmas.Result.{err_from_is_err_and}

pub ok_three : {T E P Q R S : Type 0} (result : Result T E) → OnOk result P → OnOk result Q → OnOk result R →
    (P → Q → R → S) → OnOk result S
ok_three (Ok x) p q r f = f p q r
ok_three (Err e) p q r f = p

pub if_on : {T E Q : Type 0} {P : T → Type 0} (result : Result T E) → IfOk result P → ((x : T) → P x → Q) → OnOk result Q
if_on (Ok x) p f = f x p
if_on (Err e) p f = p

pub if_ok_both : {T E Q : Type 0} {P R : T → Type 0} (result : Result T E) → IfOk result P → OnOk result Q →
    ((x : T) → P x → Q → R x) → IfOk result R
if_ok_both (Ok x) p q f = f x p q
if_ok_both (Err e) p q f = p

-- what an error that is handed on is

pub err_is : {T E : Type 0} {Q P : E → Type 0} (result : Result T E) → IsErrAnd result Q → ((y : E) → Q y → P y) → IfErr result P
err_is {P = P} result is f = let p = err_from_is_err_and result is in subst (λ r. IfErr r P) (sym p.1) (f p.0 p.2)

pub err_same : {T E : Type 0} (P : E → Type 0) (result : Result T E) (e : E) → IsErrAnd result (λ y. y ≡ e) → P e → IfErr result P
err_same P result e is p = err_is {Q = λ y. y ≡ e} {P = P} result is (λ y same. subst P (sym same) p)

-- what was written fits
pub writes_ok : {T : Type 0} (fits : Type 0) (result : Result T NodeError) → WritesOrFails fits result → OnOk result fits
writes_ok fits (Ok x) is = is
writes_ok fits (Err e) is = tt

-- what is handed on because something does not fit
pub fails_same : {T : Type 0} (fits : Type 0) (result : Result T NodeError) (error : NodeError) →
    IsErrAnd result (λ y. y ≡ error) → IsUnwritten fits error → WritesOrFails fits result
fails_same fits result error is unwritten =
    let p = err_from_is_err_and result is in
    subst (λ r. WritesOrFails fits r) (sym p.1) (subst (λ e. IsUnwritten fits e) (sym p.2) unwritten)

-- what a call ensures where it succeeds, and that what it wrote fits
pub ok_fits : {T : Type 0} (P fits : Type 0) (result : Result T NodeError) → OnOk result P → WritesOrFails fits result →
    OnOk result (P × fits)
ok_fits P fits (Ok x) p is = (p, is)
ok_fits P fits (Err e) p is = tt
