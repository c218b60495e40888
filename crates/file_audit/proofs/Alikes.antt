-- Values that are told or not, alike.
use Rattle.std.proofs.Common.{Option, Some, None, IfSome}
use Rattle.file_audit.specs.Inside.Given.{Alike}

pub alike_same : {A : Type 0} (R : A → A → Type 0) (o : Option A) → ((a : A) → R a a) → Alike R o o
alike_same R None h = tt
alike_same R (Some a) h = h a

pub alike_join : {A B C : Type 0} (R : A → B → Type 0) (S : B → C → Type 0) (T : A → C → Type 0) (a : Option A) (b : Option B) (c : Option C)
    → Alike R a b → Alike S b c → ((x : A) (y : B) (z : C) → R x y → S y z → T x z) → Alike T a c
alike_join R S T (Some a) (Some b) (Some c) h k f = f a b c h k
alike_join R S T None None None h k f = tt
alike_join R S T (Some a) (Some b) None h k f = absurd k
alike_join R S T (Some a) None c h k f = absurd h
alike_join R S T None (Some b) c h k f = absurd h
alike_join R S T None None (Some c) h k f = absurd k

-- what holds of the second gives what holds of the first
pub alike_back : {A B : Type 0} (R : A → B → Type 0) (P : B → Type 0) (Q : A → Type 0) (a : Option A) (b : Option B) → Alike R a b → IfSome b P
    → ((x : A) (y : B) → R x y → P y → Q x) → IfSome a Q
alike_back R P Q None b h k f = tt
alike_back R P Q (Some a) None h k f = absurd h
alike_back R P Q (Some a) (Some b) h k f = f a b h k

pub alike_map : {A B : Type 0} (R S : A → B → Type 0) (a : Option A) (b : Option B) → Alike R a b → ((x : A) (y : B) → R x y → S x y) → Alike S a b
alike_map R S (Some a) (Some b) h f = f a b h
alike_map R S None None h f = tt
alike_map R S (Some a) None h f = absurd h
alike_map R S None (Some b) h f = absurd h

pub any : {A : Type 0} (o : Option A) → IfSome o (λ x. Unit {0})
any None = tt
any (Some x) = tt
