pub mod SweptRows
