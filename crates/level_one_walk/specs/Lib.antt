pub mod Results
