-- SubBytes as a circuit over bits: 115 gates and four complements (Boyar and Peralta, "A New Combinational Logic
-- Minimization Technique with Applications to Cryptology", 2010), whose gates keep their published names. It takes the
-- bits of a byte, the lowest first, or numbers that each have one bit of several bytes at each place.
-- For private clauses.
use Rattle.std.specs.Prelude.{ℕ, ◌-◌, List, [], ◌∷◌, bit_xor, bit_and, slice_index}

infixl 70 ◌⊕◌
abbrev ◌⊕◌ : ℕ → ℕ → ℕ
x ⊕ y = bit_xor x y

infixl 70 ◌⊗◌
abbrev ◌⊗◌ : ℕ → ℕ → ℕ
x ⊗ y = bit_and x y

-- the sums of bits that are multiplied: the lowest bit itself, and y1 to y21
unfoldable pub input_sums : List ℕ → List ℕ
input_sums x =
    let u : ℕ → ℕ = λ k. slice_index x (7 - k) in
    let y14 = u 3 ⊕ u 5 in
    let y13 = u 0 ⊕ u 6 in
    let y9 = u 0 ⊕ u 3 in
    let y8 = u 0 ⊕ u 5 in
    let t0 = u 1 ⊕ u 2 in
    let y1 = t0 ⊕ u 7 in
    let y4 = y1 ⊕ u 3 in
    let y12 = y13 ⊕ y14 in
    let y2 = y1 ⊕ u 0 in
    let y5 = y1 ⊕ u 6 in
    let y3 = y5 ⊕ y8 in
    let t1 = u 4 ⊕ y12 in
    let y15 = t1 ⊕ u 5 in
    let y20 = t1 ⊕ u 1 in
    let y6 = y15 ⊕ u 7 in
    let y10 = y15 ⊕ t0 in
    let y11 = y20 ⊕ y9 in
    let y7 = u 7 ⊕ y11 in
    let y17 = y10 ⊕ y11 in
    let y19 = y10 ⊕ y8 in
    let y16 = t0 ⊕ y11 in
    let y21 = y13 ⊕ y16 in
    let y18 = u 0 ⊕ y16 in
    u 7 ∷ y1 ∷ y2 ∷ y3 ∷ y4 ∷ y5 ∷ y6 ∷ y7 ∷ y8 ∷ y9 ∷ y10 ∷ y11 ∷ y12 ∷ y13 ∷ y14 ∷ y15 ∷ y16 ∷ y17
    ∷ y18 ∷ y19 ∷ y20 ∷ y21 ∷ []

-- the norm of the byte in the field of 16 elements, whose inverse is wanted: t21 to t24
unfoldable pub norm : List ℕ → List ℕ
norm sums =
    let y : ℕ → ℕ = slice_index sums in
    let t2 = y 12 ⊗ y 15 in
    let t3 = y 3 ⊗ y 6 in
    let t4 = t3 ⊕ t2 in
    let t5 = y 4 ⊗ y 0 in
    let t6 = t5 ⊕ t2 in
    let t7 = y 13 ⊗ y 16 in
    let t8 = y 5 ⊗ y 1 in
    let t9 = t8 ⊕ t7 in
    let t10 = y 2 ⊗ y 7 in
    let t11 = t10 ⊕ t7 in
    let t12 = y 9 ⊗ y 11 in
    let t13 = y 14 ⊗ y 17 in
    let t14 = t13 ⊕ t12 in
    let t15 = y 8 ⊗ y 10 in
    let t16 = t15 ⊕ t12 in
    let t17 = t4 ⊕ t14 in
    let t18 = t6 ⊕ t16 in
    let t19 = t9 ⊕ t14 in
    let t20 = t11 ⊕ t16 in
    let t21 = t17 ⊕ y 20 in
    let t22 = t18 ⊕ y 19 in
    let t23 = t19 ⊕ y 21 in
    let t24 = t20 ⊕ y 18 in
    t21 ∷ t22 ∷ t23 ∷ t24 ∷ []

-- the inverse in the field of 16 elements, t29, t33, t37 and t40, and the sums of its bits, t41 to t45
unfoldable pub inverse_of_norm : List ℕ → List ℕ
inverse_of_norm t =
    let t21 = slice_index t 0 in
    let t22 = slice_index t 1 in
    let t23 = slice_index t 2 in
    let t24 = slice_index t 3 in
    let t25 = t21 ⊕ t22 in
    let t26 = t21 ⊗ t23 in
    let t27 = t24 ⊕ t26 in
    let t28 = t25 ⊗ t27 in
    let t29 = t28 ⊕ t22 in
    let t30 = t23 ⊕ t24 in
    let t31 = t22 ⊕ t26 in
    let t32 = t31 ⊗ t30 in
    let t33 = t32 ⊕ t24 in
    let t34 = t23 ⊕ t33 in
    let t35 = t27 ⊕ t33 in
    let t36 = t24 ⊗ t35 in
    let t37 = t36 ⊕ t34 in
    let t38 = t27 ⊕ t36 in
    let t39 = t29 ⊗ t38 in
    let t40 = t25 ⊕ t39 in
    let t41 = t40 ⊕ t37 in
    let t42 = t29 ⊕ t33 in
    let t43 = t29 ⊕ t40 in
    let t44 = t33 ⊕ t37 in
    let t45 = t42 ⊕ t41 in
    t29 ∷ t33 ∷ t37 ∷ t40 ∷ t41 ∷ t42 ∷ t43 ∷ t44 ∷ t45 ∷ []

-- the products of this inverse and the sums of the input: z0 to z17
unfoldable pub products : List ℕ → List ℕ → List ℕ
products sums t =
    let y : ℕ → ℕ = slice_index sums in
    let t29 = slice_index t 0 in
    let t33 = slice_index t 1 in
    let t37 = slice_index t 2 in
    let t40 = slice_index t 3 in
    let t41 = slice_index t 4 in
    let t42 = slice_index t 5 in
    let t43 = slice_index t 6 in
    let t44 = slice_index t 7 in
    let t45 = slice_index t 8 in
    t44 ⊗ y 15 ∷ t37 ⊗ y 6 ∷ t33 ⊗ y 0 ∷ t43 ⊗ y 16 ∷ t40 ⊗ y 1
    ∷ t29 ⊗ y 7 ∷ t42 ⊗ y 11 ∷ t45 ⊗ y 17 ∷ t41 ⊗ y 10 ∷ t44 ⊗ y 12
    ∷ t37 ⊗ y 3 ∷ t33 ⊗ y 4 ∷ t43 ⊗ y 13 ∷ t40 ⊗ y 5 ∷ t29 ⊗ y 2
    ∷ t42 ⊗ y 9 ∷ t45 ⊗ y 14 ∷ t41 ⊗ y 8 ∷ []

-- the bits of the outcome, from the products
unfoldable pub output_sums : ℕ → List ℕ → List ℕ
output_sums ones multiplied =
    let z : ℕ → ℕ = slice_index multiplied in
    let t46 = z 15 ⊕ z 16 in
    let t47 = z 10 ⊕ z 11 in
    let t48 = z 5 ⊕ z 13 in
    let t49 = z 9 ⊕ z 10 in
    let t50 = z 2 ⊕ z 12 in
    let t51 = z 2 ⊕ z 5 in
    let t52 = z 7 ⊕ z 8 in
    let t53 = z 0 ⊕ z 3 in
    let t54 = z 6 ⊕ z 7 in
    let t55 = z 16 ⊕ z 17 in
    let t56 = z 12 ⊕ t48 in
    let t57 = t50 ⊕ t53 in
    let t58 = z 4 ⊕ t46 in
    let t59 = z 3 ⊕ t54 in
    let t60 = t46 ⊕ t57 in
    let t61 = z 14 ⊕ t57 in
    let t62 = t52 ⊕ t58 in
    let t63 = t49 ⊕ t58 in
    let t64 = z 4 ⊕ t59 in
    let t65 = t61 ⊕ t62 in
    let t66 = z 1 ⊕ t63 in
    let s0 = t59 ⊕ t63 in
    let s6 = t56 ⊕ t62 in
    let s7 = t48 ⊕ t60 in
    let t67 = t64 ⊕ t65 in
    let s3 = t53 ⊕ t66 in
    let s4 = t51 ⊕ t66 in
    let s5 = t47 ⊕ t65 in
    let s1 = t64 ⊕ s3 in
    let s2 = t55 ⊕ t67 in
    s7 ⊕ ones ∷ s6 ⊕ ones ∷ s5 ∷ s4 ∷ s3 ∷ s2 ⊕ ones ∷ s1 ⊕ ones ∷ s0 ∷ []

-- the circuit, where the complement of a number is its sum with `ones`
unfoldable pub circuit : ℕ → List ℕ → List ℕ
circuit ones x =
    let sums = input_sums x in
    output_sums ones (products sums (inverse_of_norm (norm sums)))
