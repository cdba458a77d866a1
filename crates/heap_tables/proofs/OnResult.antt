-- What holds of one answer alone.
use Rattle.std.proofs.Common.{Result, Ok, Err}
use Rattle.std.specs.Result.{OnOk, OnErr}

pub ok_map : {A B : Type 0} (r : Result A B) (P Q : Type 0) → (P → Q) → OnOk r P → OnOk r Q
ok_map (Ok x) P Q f h = f h
ok_map (Err e) P Q f h = tt

pub err_map : {A B : Type 0} (r : Result A B) (P Q : Type 0) → (P → Q) → OnErr r P → OnErr r Q
err_map (Ok x) P Q f h = tt
err_map (Err e) P Q f h = f h

pub ok_both : {A B : Type 0} (r : Result A B) (P Q : Type 0) → OnOk r P → OnOk r Q → OnOk r (P × Q)
ok_both (Ok x) P Q h k = (h, k)
ok_both (Err e) P Q h k = tt

pub either : {A B : Type 0} (r : Result A B) (P : Type 0) → OnOk r P → OnErr r P → P
either (Ok x) P h k = h
either (Err e) P h k = k

pub err_both : {A B : Type 0} (r : Result A B) (P Q : Type 0) → OnErr r P → OnErr r Q → OnErr r (P × Q)
err_both (Ok x) P Q h k = tt
err_both (Err e) P Q h k = (h, k)

pub on_err : {A B : Type 0} (r : Result A B) (P : Type 0) → P → OnErr r P
on_err (Ok x) P h = tt
on_err (Err e) P h = h

pub ok_three : {A B : Type 0} (r : Result A B) (P Q R : Type 0) → OnOk r P → OnOk r Q → OnOk r R → OnOk r (P × Q × R)
ok_three (Ok x) P Q R h k l = (h, k, l)
ok_three (Err e) P Q R h k l = tt

pub err_three : {A B : Type 0} (r : Result A B) (P Q R : Type 0) → OnErr r P → OnErr r Q → OnErr r R → OnErr r (P × Q × R)
err_three (Ok x) P Q R h k l = tt
err_three (Err e) P Q R h k l = (h, k, l)
